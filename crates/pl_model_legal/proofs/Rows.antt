-- That rows are sound, formed and name providers, by tests that compute.
use Rattle.std.proofs.Common.{◌≡◌, ℕ, zero, suc, Bool, true, false, not, ◌&&◌, All, AllPairs, IfSome, Option, None, Some, List, [], ◌∷◌, ◌++◌, find, slice_get, take, cond, option_and_then, length, nat_le, nat_lt, ◌==◌, ◌≢◌, refl, sym, ◌∙◌, ap, subst, append_assoc, append-nil, not-suc-le-zero}
use Rattle.std.proofs.lemmas.Bool.{and_parts, eqb-false, leb-true, ltb-true, not-true}
use Rattle.std.proofs.lemmas.List.Elements.{All-nil, All-weaker}
use Rattle.std.proofs.lemmas.List.Sums.{AllPass-from_list_all}
use Rattle.std.specs.List.{list_all}
use Rattle.pl_reference.specs.declared.reference.ProviderRef.{ProviderRef}
use Rattle.pl_sound.specs.Sound.{IsSound, fault_at, finds_all, first_unmet, is_met, wants}
use Rattle.pl_state.specs.Kinds.{is_of_provider}
use Rattle.pl_state.specs.declared.entry.Entry.{Entry}
use Rattle.pl_state.specs.declared.fault.Missing.{Missing}
use Rattle.pl_lemmas.specs.Words.{has_none}
use Rattle.pl_state.specs.Formed.{is_formed_row, most_resources}
use Rattle.pl_state.specs.declared.pending.Pending.{Pending}
use Rattle.pl_urn.specs.Cut.{colon}
use Rattle.pl_urn.specs.Grammar.{IsScope}
use Rattle.pl_model.specs.declared.fixed.Fixed.{Fixed}
use Rattle.pl_model.specs.Claims.{is_usable}
use Rattle.pl_model.specs.Run.{imports_of, rows_of}
use Rattle.pl_model.specs.RunData.{IsRun, NameProviders, NamesProvider, most_children}

-- whether each row finds what it wants among those before it
abbrev pub are_found : List Entry → List Entry → Bool
are_found before [] = true
are_found before (row ∷ rows) = finds_all before row && are_found (before ++ row ∷ []) rows

none_unmet : {X : Type 0} (met : X → Bool) (xs : List X) → list_all met xs ≡ true → find (λ x. not (met x)) xs ≡ None
none_unmet met [] h = refl
none_unmet met (x ∷ xs) h =
    let parts = and_parts (met x) (list_all met xs) h in
    ap (λ (b : Bool). cond (not b) (Some x) (find (λ x. not (met x)) xs)) parts.0 ∙ none_unmet met xs parts.1

found_at : (before rows : List Entry) → are_found before rows ≡ true → (at : ℕ)
    → option_and_then (λ row. first_unmet (is_met (before ++ take at rows)) row) (slice_get rows at) ≡ None
unfolding first_unmet
found_at before [] h at = refl
found_at before (row ∷ rows) h zero =
    let parts = and_parts (finds_all before row) (are_found (before ++ row ∷ []) rows) h in
    ap (λ (earlier : List Entry). first_unmet (is_met earlier) row) (append-nil before) ∙ none_unmet (is_met before) (wants row) parts.0
found_at before (row ∷ rows) h (suc at) =
    let parts = and_parts (finds_all before row) (are_found (before ++ row ∷ []) rows) h in
    ap (λ (earlier : List Entry). option_and_then (λ later. first_unmet (is_met earlier) later) (slice_get rows at))
    (sym (append_assoc before (row ∷ []) (take at rows)))
    ∙ found_at (before ++ row ∷ []) rows parts.1 at

pub sound : (rows : List Entry) → are_found [] rows ≡ true → IsSound rows
unfolding fault_at
sound rows h at = found_at [] rows h at

-- whether a row names no provider, or one by an id that a reference can name
abbrev names : Option ProviderRef → Bool
names None = true
names (Some reference) = is_of_provider reference.urn && is_usable reference.id

names_one : (reference : Option ProviderRef) → names reference ≡ true → IfSome reference NamesProvider
names_one None h = tt
names_one (Some reference) h =
    let parts = and_parts (is_of_provider reference.urn) (is_usable reference.id) h in
    record { of_provider = parts.0; usable = parts.1 }

abbrev pub name_providers : List Entry → Bool
name_providers rows = list_all (λ row. names row.provider) rows

pub providers : (rows : List Entry) → name_providers rows ≡ true → NameProviders rows
providers rows h =
    All-weaker (λ row. names row.provider ≡ true) (λ row. IfSome row.provider NamesProvider) (λ row is. names_one row.provider is) rows
    (AllPass-from_list_all (λ row. names row.provider) rows h)

-- ---- a run

-- whether a text can be the name of a stack or a project
abbrev pub is_scope : List ℕ → Bool
is_scope text = nat_lt 0 (length text) && list_all (λ byte. not (byte == colon)) text

scope : (text : List ℕ) → is_scope text ≡ true → IsScope text
scope text h =
    let parts = and_parts (nat_lt 0 (length text)) (list_all (λ byte. not (byte == colon)) text) h in
    record {
      nonempty = ltb-true 0 (length text) parts.0;
      without_colon =
          All-weaker (λ byte. not (byte == colon) ≡ true) (λ byte. byte ≢ colon)
          (λ byte other. eqb-false byte colon (not-true (byte == colon) other)) text
          (AllPass-from_list_all (λ byte. not (byte == colon)) text parts.1);
    }

-- whether rows may stand at the start of a run, the form of their values aside
abbrev pub may_start : List Entry → Bool
may_start rows = are_found [] rows && (nat_le (length rows) most_resources && name_providers rows)

abbrev pub has_children : ℕ → Bool
has_children parallel = nat_lt 0 parallel && nat_le parallel most_children

-- the data of a run that imports nothing and begins with nothing pending
pub is_run : (run : Fixed) → may_start (rows_of run) ≡ true → list_all is_formed_row (rows_of run) ≡ true → run.base.pending ≡ []
    → imports_of run.mode ≡ [] → (is_scope run.stack && is_scope run.project) ≡ true → has_children run.parallel ≡ true → IsRun run
is_run run start formed waiting imports scopes children =
    let rows : List Entry = rows_of run in
    let parts = and_parts (are_found [] rows) (nat_le (length rows) most_resources && name_providers rows) start in
    let more = and_parts (nat_le (length rows) most_resources) (name_providers rows) parts.1 in
    let both = and_parts (is_scope run.stack) (is_scope run.project) scopes in
    let some = and_parts (nat_lt 0 run.parallel) (nat_le run.parallel most_children) children in
    record {
      sound = sound rows parts.0;
      within = leb-true (length rows) most_resources more.0;
      formed = AllPass-from_list_all is_formed_row rows formed;
      providers = providers rows more.1;
      nothing_pending = λ not_anew. waiting;
      formed_pending =
          subst (λ (all : List Pending). All (λ operation. is_formed_row operation.entry ≡ true) all) (sym waiting)
          (All-nil (λ (operation : Pending). is_formed_row operation.entry ≡ true));
      names = λ hosted. (scope run.stack both.0, scope run.project both.1);
      some_children = ltb-true 0 run.parallel some.0;
      few_children = leb-true run.parallel most_children some.1;
      import_ids =
          subst (λ (all : List (List ℕ × List ℕ)). All (λ pair. has_none pair.0 ≡ false) all) (sym imports)
          (All-nil (λ (pair : List ℕ × List ℕ). has_none pair.0 ≡ false));
      imports_apart =
          subst (λ (all : List (List ℕ × List ℕ)). AllPairs (λ one other. one.1 ≢ other.1) all) (sym imports)
          (λ i j d earlier within. absurd (not-suc-le-zero within));
    }
