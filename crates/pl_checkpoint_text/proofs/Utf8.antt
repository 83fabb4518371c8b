-- Text that is added to a text makes a text.
use Rattle.std.proofs.Common.{◌≡◌, ℕ, true, List, ◌++◌, IsUtf8, sym, subst}
use Rattle.std.proofs.lemmas.Str.{IsUtf8-append}
use Rattle.json.proofs.Printed.Utf8.{are_ascii, IsUtf8-are_ascii}

pub added_utf8 : (old more new : List ℕ) → new ≡ old ++ more → IsUtf8 more → IsUtf8 old → IsUtf8 new
added_utf8 old more new is one all = subst IsUtf8 (sym is) (IsUtf8-append old more all one)

pub added_ascii : (old more new : List ℕ) → new ≡ old ++ more → are_ascii more ≡ true → IsUtf8 old → IsUtf8 new
added_ascii old more new is ascii = added_utf8 old more new is (IsUtf8-are_ascii more ascii)
