-- The text of a state reads as the state.
use Rattle.std.proofs.Common.{◌≡◌, ℕ, List, Some, None, cond, Ok, sym, ap, subst, ◌∙◌, arith}
use Rattle.std.proofs.lemmas.Str.{is_utf8-from_IsUtf8}
use Rattle.std.specs.Str.{IsUtf8}
use Rattle.pl_json.proofs.ReadBack.{read_back}
use Rattle.pl_state.specs.declared.snapshot.Snapshot.{Snapshot}
use Rattle.serde_json.specs.Read.{read}
use Rattle.pl_checkpoint_text.specs.Formed.{IsFormed}
use Rattle.pl_checkpoint_text.specs.Laws.{AreValued}
use Rattle.pl_checkpoint_text.specs.Read.{data_reading, reading_of}
use Rattle.pl_checkpoint_text.specs.ReadLaws.{IsReadable, ReadOnlyAs, TextIsRead}
use Rattle.pl_checkpoint_text.specs.Spelled.{checkpoint_data, checkpoint_text}
use Rattle.pl_checkpoint_text.proofs.ReadLawFields.{ok_same}
use Rattle.pl_checkpoint_text.proofs.ReadLawProper.{Rises-proper}
use Rattle.pl_checkpoint_text.proofs.ReadLawShape.{flat_checkpoint}
use Rattle.pl_checkpoint_text.proofs.ReadLawSpelled.{spelled_is_read}
use Rattle.pl_checkpoint_text.proofs.Wholes.{checkpoint_wholes}

text_data : (state : Snapshot) → IsFormed state → AreValued state → read (checkpoint_text state) ≡ Some (checkpoint_data state)
unfolding checkpoint_text
text_data state formed valued =
    let flat = flat_checkpoint state formed valued in
    read_back (checkpoint_data state) (checkpoint_wholes state formed valued) (Rises-proper (checkpoint_data state) flat.proper) (omega (arith, flat.shallow))

text_read : (state : Snapshot) → IsReadable state → IsUtf8 (checkpoint_text state) → reading_of (checkpoint_text state) ≡ Ok state
unfolding reading_of
text_read state readable utf8 =
    ap (λ t. data_reading (cond t (read (checkpoint_text state)) None)) (is_utf8-from_IsUtf8 (checkpoint_text state) utf8)
    ∙ ap data_reading (text_data state readable.formed readable.valued)
    ∙ spelled_is_read state readable

pub text_is_read : TextIsRead
text_is_read state readable utf8 =
    let back = text_read state readable utf8 in
    record { read = back; alone = λ other is. ok_same other state (sym is ∙ back) }

-- bytes that are the state's text, and UTF-8
pub written_is_read : (bytes : List ℕ) (state : Snapshot) → bytes ≡ checkpoint_text state → IsUtf8 bytes → IsReadable state → ReadOnlyAs bytes state
written_is_read bytes state is utf8 readable =
    subst (λ bs. ReadOnlyAs bs state) (sym is) (text_is_read state readable (subst IsUtf8 is utf8))
