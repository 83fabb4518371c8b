use Rattle.std.proofs.Common.{◌≡◌, drop}
use Rattle.serde_json.specs.View.{items_view}
use Rattle.pl_checkpoint.proofs.Told.{after}
use Rattle.pl_checkpoint_text.specs.ReadField.{elements, text_in}
use Rattle.pl_checkpoint.proofs.lists.texts_of.Given as goal

-- what is read of the whole is what was read of the first ones, and then the rest
abbrev pub invariant-loop-place : goal.invariant-loop-place
invariant-loop-place l =
    elements text_in l.path 0 (items_view l.items) ≡ after l.texts (elements text_in l.path l.place (items_view (drop l.place l.items)))
