-- That every request is answered and every goal recorded, by tests that compute.
use Rattle.std.proofs.Common.{◌≡◌, ℕ, ◌==◌, ◌<◌, Bool, true, false, ◌&&◌, Contains, Option, None, Some, is_some, List, [], ◌∷◌, find, length, cond, refl, ap, subst}
use Rattle.std.proofs.lemmas.Bool.{and_parts, eqb-true}
use Rattle.std.specs.List.{list_all}
use Rattle.pl_lemmas.proofs.Numbers.{contains_number}
use Rattle.pl_state.specs.declared.snapshot.Snapshot.{Snapshot}
use Rattle.pl_events.specs.declared.event.Event.{Event}
use Rattle.pl_model.specs.declared.fixed.Fixed.{Fixed}
use Rattle.pl_model.specs.declared.heard.Heard.{Heard}
use Rattle.pl_model.specs.Entries.{new_entries}
use Rattle.pl_model.specs.Fulfilment.{AllOnce, Fulfils}
use Rattle.pl_model.specs.History.{known_of}
use Rattle.pl_model.specs.Known.{Known, all_recorded, is_recorded, number_of}
use Rattle.pl_model.specs.Posts.{AllAnswered}
use Rattle.pl_lemmas.specs.Words.{has_number}
use Rattle.pl_model.specs.Recording.{posted_of, recorded_of}
use Rattle.pl_model_legal.proofs.Tests.{passes_below}

-- a request that is found is one of those whose numbers were posted
found_posted : (posted : List ℕ) (asked : List Heard) (n : ℕ) → list_all (λ one. has_number posted (number_of one.request)) asked ≡ true
    → is_some (find (λ one. number_of one.request == n) asked) ≡ true → has_number posted n ≡ true
found_posted posted [] n all h = absurd (let e : false ≡ true = h in cc)
found_posted posted (first ∷ asked) n all h =
    let parts = and_parts (has_number posted (number_of first.request)) (list_all (λ one. has_number posted (number_of one.request)) asked) all in
    by (number_of first.request == n) refl parts.0 (found_posted posted asked n parts.1) h
  where
    by : (b : Bool) → (number_of first.request == n) ≡ b → has_number posted (number_of first.request) ≡ true
        → (is_some (find (λ one. number_of one.request == n) asked) ≡ true → has_number posted n ≡ true)
        → is_some (cond b (Some first) (find (λ one. number_of one.request == n) asked)) ≡ true → has_number posted n ≡ true
    by true is there rest h = subst (λ (k : ℕ). has_number posted k ≡ true) (eqb-true (number_of first.request) n is) there
    by false is there rest h = rest h

-- whether every told request was answered
abbrev pub are_answered : Known → Bool
are_answered known = list_all (λ one. has_number (posted_of known.history) (number_of one.request)) known.asked

pub all_answered : (known : Known) → are_answered known ≡ true → AllAnswered known
all_answered known h = λ n there. found_posted (posted_of known.history) known.asked n h there

-- every goal is recorded just once where all are recorded and there are no more records than goals
pub all_once : (known : Known) → length (recorded_of known.history) ≡ length known.goals → all_recorded known ≡ true → AllOnce known
all_once known same all = record {
  count = same;
  each = λ number low. contains_number (recorded_of known.history) number (passes_below (is_recorded known) (length known.goals) number all low);
}
