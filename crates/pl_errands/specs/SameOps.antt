-- Operations that are the same are equal, so what is kept of them can be looked up.
use Rattle.std.proofs.Common.{◌≡◌, ℕ, Bool, true, false, refl, sym, ap, subst, true≢false, eqb-true, eq-eqb}
use Rattle.std.specs.Cmp.{IsEquivalence}
use Rattle.std.specs.Hash.{Alike, u64}
use Rattle.pl_events.specs.declared.operation.Op.{Op}
use Rattle.pl_events.specs.declared.operation.Op.TheVariants as op
use Rattle.pl_events.specs.declared.operation.Source.{Source}
use Rattle.pl_events.specs.declared.operation.Source.TheVariants as source
use Rattle.pl_events.specs.declared.operation.Subject.{Subject}
use Rattle.pl_events.specs.declared.operation.Subject.TheVariants as subject
use Rattle.pl_model.specs.Tickets.{same_op, same_source, same_subject}

-- ---- the number in an operation

-- the number of what an operation is about
abbrev pub number_of : Subject → ℕ
number_of (subject.Goal number) = number
number_of (subject.Row number) = number
number_of (subject.Pending number) = number

abbrev number_of_source : Source → ℕ
number_of_source (source.Goal number) = number
number_of_source (source.Row number) = number

abbrev pub number_in : Op → ℕ
number_in (op.CheckConfig about) = number_of about
number_in (op.Configure provider) = number_of_source provider
number_in (op.Check about) = number_of about
number_in (op.Diff about) = number_of about
number_in (op.Create about) = number_of about
number_in (op.Update about) = number_of about
number_in (op.Delete about) = number_of about
number_in (op.Read about) = number_of about
number_in (op.Invoke number) = number

-- ---- equal

subjects_equal : (a b : Subject) → same_subject a b ≡ true → a ≡ b
subjects_equal (subject.Goal a) (subject.Goal b) h = ap subject.Goal (eqb-true a b h)
subjects_equal (subject.Row a) (subject.Row b) h = ap subject.Row (eqb-true a b h)
subjects_equal (subject.Pending a) (subject.Pending b) h = ap subject.Pending (eqb-true a b h)
subjects_equal _ _ h = absurd (true≢false (sym h))

sources_equal : (a b : Source) → same_source a b ≡ true → a ≡ b
sources_equal (source.Goal a) (source.Goal b) h = ap source.Goal (eqb-true a b h)
sources_equal (source.Row a) (source.Row b) h = ap source.Row (eqb-true a b h)
sources_equal _ _ h = absurd (true≢false (sym h))

pub ops_equal : (a b : Op) → same_op a b ≡ true → a ≡ b
ops_equal (op.CheckConfig a) (op.CheckConfig b) h = ap op.CheckConfig (subjects_equal a b h)
ops_equal (op.Configure a) (op.Configure b) h = ap op.Configure (sources_equal a b h)
ops_equal (op.Check a) (op.Check b) h = ap op.Check (subjects_equal a b h)
ops_equal (op.Diff a) (op.Diff b) h = ap op.Diff (subjects_equal a b h)
ops_equal (op.Create a) (op.Create b) h = ap op.Create (subjects_equal a b h)
ops_equal (op.Update a) (op.Update b) h = ap op.Update (subjects_equal a b h)
ops_equal (op.Delete a) (op.Delete b) h = ap op.Delete (subjects_equal a b h)
ops_equal (op.Read a) (op.Read b) h = ap op.Read (subjects_equal a b h)
ops_equal (op.Invoke a) (op.Invoke b) h = ap op.Invoke (eqb-true a b h)
ops_equal _ _ h = absurd (true≢false (sym h))

-- ---- itself

subject_itself : (a : Subject) → same_subject a a ≡ true
subject_itself (subject.Goal a) = eq-eqb a a refl
subject_itself (subject.Row a) = eq-eqb a a refl
subject_itself (subject.Pending a) = eq-eqb a a refl

source_itself : (a : Source) → same_source a a ≡ true
source_itself (source.Goal a) = eq-eqb a a refl
source_itself (source.Row a) = eq-eqb a a refl

op_itself : (a : Op) → same_op a a ≡ true
op_itself (op.CheckConfig a) = subject_itself a
op_itself (op.Configure a) = source_itself a
op_itself (op.Check a) = subject_itself a
op_itself (op.Diff a) = subject_itself a
op_itself (op.Create a) = subject_itself a
op_itself (op.Update a) = subject_itself a
op_itself (op.Delete a) = subject_itself a
op_itself (op.Read a) = subject_itself a
op_itself (op.Invoke a) = eq-eqb a a refl

-- ---- the laws of a key

alike : (a b : Bool) → (a ≡ true → b ≡ true) → (b ≡ true → a ≡ true) → a ≡ b
alike true b one two = sym (one refl)
alike false true one two = two refl
alike false false one two = refl

pub ops_equiv : IsEquivalence same_op
ops_equiv = record {
  refl = λ a. op_itself a;
  symm = λ a b. alike (same_op a b) (same_op b a)
      (λ h. subst (λ (one : Op). same_op one a ≡ true) (ops_equal a b h) (op_itself a))
      (λ h. subst (λ (one : Op). same_op one b ≡ true) (ops_equal b a h) (op_itself b));
  congr = λ a b c h. ap (λ (one : Op). same_op one c) (ops_equal a b h);
}

pub ops_alike : Alike same_op (λ about. u64 (number_in about))
ops_alike = record { fed = λ a b h. ap (λ (one : Op). u64 (number_in one)) (ops_equal a b h) }
