-- A pending creation by its place, and what a deletion asks.
use Rattle.std.proofs.Common.{◌≡◌, ℕ, List, option_and_then, option_map, refl}
use Rattle.std.specs.List.{position}
use Rattle.pl_events.specs.declared.operation.Subject.{Subject}
use Rattle.pl_events.specs.declared.operation.Subject.TheVariants as subject
use Rattle.pl_lemmas.proofs.Numbered.{place_found}
use Rattle.pl_model.specs.Asked.{ask_delete, ask_row}
use Rattle.pl_model.specs.Entries.{old_row}
use Rattle.pl_model.specs.Known.{Known}
use Rattle.pl_model.specs.Problems.{creates_urn, pending_create}
use Rattle.pl_model.specs.Recording.{row_in}
use Rattle.pl_model.specs.declared.fixed.Fixed.{Fixed}

-- a pending creation is found by its place
pub create_place : (run : Fixed) (urn : List ℕ) → pending_create run urn ≡ position (creates_urn urn) run.base.pending
create_place run urn = place_found (creates_urn urn) run.base.pending

-- a deletion asks of the row as it stands now
pub row_asked : (known : Known) (about : Subject) → ask_row known about ≡ option_map ask_delete (option_and_then (old_row known) (row_in about))
row_asked known (subject.Goal number) = refl
row_asked known (subject.Row row) = refl
row_asked known (subject.Pending at) = refl
