-- The first pending creation of a URN, by its place.
use Rattle.std.proofs.Common.{◌≡◌, ℕ, List}
use Rattle.std.specs.List.{position}
use Rattle.pl_lemmas.proofs.Numbered.{place_found}
use Rattle.pl_model.specs.Problems.{creates_urn, pending_create}
use Rattle.pl_model.specs.declared.fixed.Fixed.{Fixed}

pub create_place : (run : Fixed) (urn : List ℕ) → pending_create run urn ≡ position (creates_urn urn) run.base.pending
create_place run urn = place_found (creates_urn urn) run.base.pending
