-- What the value that is seen tells, by the fields behind it.
use Rattle.std.proofs.Common.{◌≡◌, ℕ, List, reverse, option_and_then, option_map, sym, ap, ◌∙◌}
use Rattle.std.proofs.lemmas.Option.{slice_get-map}
use Rattle.std.specs.Bool.{nat_eq}
use Rattle.std.specs.HashMap.{get}
use Rattle.std.specs.List.{find, slice_get}
use Rattle.pl_lemmas.specs.Words.{numbered}
use Rattle.pl_lemmas.proofs.Numbered.{numbered_turned}
use Rattle.pl_model.specs.Due.{request_numbers}
use Rattle.pl_model.specs.Known.{Known, number_of}
use Rattle.pl_model.specs.declared.heard.Heard.{Heard}
use Rattle.pl_told.specs.declared.stored.Stored.TheInside.{Inside}
use Rattle.pl_told.specs.Index.{has_n}
use Rattle.pl_told.specs.Stored.{IsStored, Standing, stored_by}
use Rattle.pl_told.proofs.Places.{find-number, numbered-reverse}

module _ (inside : Inside) (holds : IsStored inside) (value : Standing) (seen : stored_by inside ≡ value) where
  pub goal_seen : (number : ℕ) → numbered value.goals number ≡ slice_get inside.goals.items number
  goal_seen number = ap (λ (standing : Standing). numbered standing.goals number) (sym seen) ∙ numbered-reverse inside.goals.items number

  pub heard_seen : (place : ℕ) → numbered value.asked place ≡ slice_get inside.heard.items place
  heard_seen place = ap (λ (standing : Standing). numbered standing.asked place) (sym seen) ∙ numbered-reverse inside.heard.items place

  pub asked_seen : (n : ℕ) → find (has_n n) value.asked ≡ option_and_then (slice_get inside.heard.items) (get nat_eq inside.places n)
  asked_seen n =
      ap (λ (standing : Standing). find (has_n n) standing.asked) (sym seen)
      ∙ find-number (has_n n) (reverse inside.heard.items)
      ∙ (λ i. option_and_then (λ place. numbered-reverse inside.heard.items place i) (sym (holds.requests n) i))

-- the numbers of the told requests in their order, by their places
pub told_number : (known : Known) (asked : List Heard) → known.asked ≡ asked → (place : ℕ)
    → slice_get (request_numbers known) place ≡ option_map (λ one. number_of one.request) (numbered asked place)
told_number known asked same place =
    slice_get-map (λ one. number_of one.request) (reverse known.asked) place
    ∙ ap (option_map (λ one. number_of one.request))
    (numbered_turned known.asked place ∙ ap (λ (one : List Heard). numbered one place) same)
