-- One pass over operations finds the first provider that wants a lane.
use Rattle.std.proofs.Common.{◌≡◌, Bool, true, false, not, ◌&&◌, ◌||◌, if◌then◌else◌, List, [], ◌∷◌, ◌++◌, find, Option, Some, None, refl, sym, ◌∙◌, ap, append_assoc, option_and_then}
use Rattle.std.proofs.Math.Bool.{or-false}
use Rattle.std.proofs.lemmas.List.{append-nil}
use Rattle.std.proofs.lemmas.List.Folds.{list_any-append}
use Rattle.std.specs.List.{fold, list_any}
use Rattle.pl_events.specs.declared.operation.Op.{Op}
use Rattle.pl_events.specs.declared.operation.Source.{Source}
use Rattle.pl_model.specs.Due.{is_wanted_op, source_of_op}
use Rattle.pl_model.specs.Known.{Known}
use Rattle.pl_model.specs.Tickets.{is_source, same_source}
use Rattle.pl_model.specs.declared.work.Work.TheVariants.{Send as to_send}
use Rattle.pl_due.specs.Now.{better, better_with, earlier, first_wanting, is_listed, is_work_of, lacks_lane, passes_now, providers_of, wants_for}
use Rattle.pl_due.specs.Seen.{known_in}
use Rattle.pl_due.specs.declared.seen.Seen.{Seen}
use Rattle.pl_due.proofs.Finding.{found_same}
use Rattle.pl_due.proofs.Orders.{first_more, listed_is, providers_ordered, same_is}

module _ (seen : Seen) (done : List Op) (about : Op) where
  abbrev known : Known
  known = known_in seen

  abbrev old : Source → Bool
  old = wants_for seen done

  abbrev with_more : Source → Bool
  with_more wanted = old wanted || (is_work_of seen wanted about && lacks_lane known wanted)

  -- whether the operation is to be done, whoever provides for it
  abbrev to_do : Bool
  to_do = is_wanted_op known about && not (passes_now seen (to_send about))

  -- whether one of the operations of a provider is to be done, with one more
  more_work : (wanted : Source) → wants_for seen (done ++ about ∷ []) wanted ≡ with_more wanted
  more_work wanted =
      ap (λ (b : Bool). b && lacks_lane known wanted)
      (list_any-append (is_work_of seen wanted) done (about ∷ []) ∙ ap (λ (b : Bool). list_any (is_work_of seen wanted) done || b) (or-false (is_work_of seen wanted about)))
      ∙ by (list_any (is_work_of seen wanted) done) (is_work_of seen wanted about) (lacks_lane known wanted)
    where
      by : (a b c : Bool) → ((a || b) && c) ≡ ((a && c) || (b && c))
      by true true true = refl
      by true false true = refl
      by false b c = refl
      by true true false = refl
      by true false false = refl

  -- an operation that no provider is for adds none
  none_more : source_of_op known about ≡ None → (wanted : Source) → old wanted ≡ with_more wanted
  none_more none wanted =
      sym (or-false (old wanted))
      ∙ ap (λ (o : Option Source). old wanted || ((is_source o wanted && is_wanted_op known about && not (passes_now seen (to_send about))) && lacks_lane known wanted))
      (sym none)

  module _ (own : Source) (is : source_of_op known about ≡ Some own) where
    own_work : (wanted : Source) → (is_work_of seen wanted about && lacks_lane known wanted)
        ≡ (same_source own wanted && (to_do && lacks_lane known own))
    own_work wanted =
        ap (λ (o : Option Source). (is_source o wanted && is_wanted_op known about && not (passes_now seen (to_send about))) && lacks_lane known wanted) is
        ∙ by (same_source own wanted) refl
      where
        by : (same : Bool) → same_source own wanted ≡ same
            → ((same && is_wanted_op known about && not (passes_now seen (to_send about))) && lacks_lane known wanted)
            ≡ (same && (to_do && lacks_lane known own))
        by true same = ap (λ (one : Source). to_do && lacks_lane known one) (sym (same_is own wanted same))
        by false same = refl

    -- one that does nothing for its provider adds none
    no_more : (to_do && lacks_lane known own) ≡ false → (wanted : Source) → old wanted ≡ with_more wanted
    no_more never wanted =
        sym (ap (λ (b : Bool). old wanted || b)
        (own_work wanted ∙ ap (λ (b : Bool). same_source own wanted && b) never ∙ nothing (same_source own wanted))
        ∙ or-false (old wanted))
      where
        nothing : (b : Bool) → (b && false) ≡ false
        nothing true = refl
        nothing false = refl

    one_more : (to_do && lacks_lane known own) ≡ true → (wanted : Source) → (old wanted || same_source own wanted) ≡ with_more wanted
    one_more ever wanted =
        sym (ap (λ (b : Bool). old wanted || b)
        (own_work wanted ∙ ap (λ (b : Bool). same_source own wanted && b) ever ∙ whole (same_source own wanted)))
      where
        whole : (b : Bool) → (b && true) ≡ b
        whole true = refl
        whole false = refl

    added : (listed : Bool) → is_listed known own ≡ listed → (to_do && lacks_lane known own) ≡ true
        → better_with (find old (providers_of known)) (if listed then Some own else None) ≡ find with_more (providers_of known)
    added listed there ever =
        by listed
        ∙ ap (λ (b : Bool). if b then Some (earlier (find old (providers_of known)) own) else find old (providers_of known))
        (sym (listed_is known own ∙ there))
        ∙ sym (first_more old own (providers_of known) (providers_ordered known))
        ∙ found_same (λ wanted. old wanted || same_source own wanted) with_more (one_more ever) (providers_of known)
      where
        by : (b : Bool) → better_with (find old (providers_of known)) (if b then Some own else None)
            ≡ (if b then Some (earlier (find old (providers_of known)) own) else find old (providers_of known))
        by true = refl
        by false = refl

    made : (does listed lacks : Bool) → to_do ≡ does → is_listed known own ≡ listed → lacks_lane known own ≡ lacks
        → better_with (find old (providers_of known)) (if does && (listed && lacks) then Some own else None) ≡ find with_more (providers_of known)
    made true true true does there wants = added true there (λ i. does i && wants i)
    made true false true does there wants = added false there (λ i. does i && wants i)
    made true true false does there wants = found_same old with_more (no_more (λ i. does i && wants i)) (providers_of known)
    made true false false does there wants = found_same old with_more (no_more (λ i. does i && wants i)) (providers_of known)
    made false listed lacks does there wants =
        found_same old with_more (no_more (λ i. does i && lacks_lane known own)) (providers_of known)

  -- with one operation more the first provider that wants a lane is the better one
  pub one_better : better seen (first_wanting seen done) about ≡ first_wanting seen (done ++ about ∷ [])
  one_better =
      by (source_of_op known about) refl
      ∙ sym (found_same (wants_for seen (done ++ about ∷ [])) with_more more_work (providers_of known))
    where
      pass : (o : Option Source) → source_of_op known about ≡ o
          → better seen (first_wanting seen done) about
          ≡ better_with (find old (providers_of known))
          (option_and_then (λ own. if to_do && (is_listed known own && lacks_lane known own) then Some own else None) o)
      pass o is =
          ap (λ (o : Option Source). better_with (find old (providers_of known))
          (option_and_then (λ own. if to_do && (is_listed known own && lacks_lane known own) then Some own else None) o)) is

      by : (o : Option Source) → source_of_op known about ≡ o
          → better seen (first_wanting seen done) about ≡ find with_more (providers_of known)
      by None is = pass None is ∙ found_same old with_more (none_more is) (providers_of known)
      by (Some own) is = pass (Some own) is ∙ made own is to_do (is_listed known own) (lacks_lane known own) refl refl refl

-- ---- all operations of a list

module _ (seen : Seen) where
  pub best_of_all : (works done : List Op) → fold (better seen) (first_wanting seen done) works ≡ first_wanting seen (done ++ works)
  best_of_all [] done = ap (λ (all : List Op). first_wanting seen all) (sym (append-nil done))
  best_of_all (about ∷ works) done =
      ap (λ (best : Option Source). fold (better seen) best works) (one_better seen done about)
      ∙ best_of_all works (done ++ about ∷ [])
      ∙ ap (λ (all : List Op). first_wanting seen all) (append_assoc done (about ∷ []) works)

  none_first : (providers : List Source) → None ≡ find (wants_for seen []) providers
  none_first [] = refl
  none_first (provider ∷ providers) = none_first providers

  pub nothing_first : None ≡ first_wanting seen []
  nothing_first = none_first (providers_of (known_in seen))

  -- lists with the same operations want the same
  pub same_works : (works others : List Op) → ((p : Op → Bool) → list_any p works ≡ list_any p others)
      → first_wanting seen works ≡ first_wanting seen others
  same_works works others same =
      found_same (wants_for seen works) (wants_for seen others)
      (λ wanted. ap (λ (b : Bool). b && lacks_lane (known_in seen) wanted) (same (is_work_of seen wanted))) (providers_of (known_in seen))
