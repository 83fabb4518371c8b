use Rattle.std.proofs.Common.{◌≡◌, ◌∙◌, ap, ℕ, List, [], ◌∷◌, ◌++◌, None}
use Rattle.std.specs.HashMap.{get}
use Rattle.std.specs.Prelude.{string_bytes, string_eq}
use Rattle.pl_reference.specs.Packages.{pairs_in, words_of}
use Rattle.pl_reference.proofs.Packages.{paired, words_added, words_found}
use Rattle.pl_reference.proofs.words.put_words.Goals as goal

pub returns-clause-added : goal.returns-clause-added
returns-clause-added c =
    let none : get string_eq c.args.words.now c.into_string.result ≡ None =
    words_found c.args.words.now (string_bytes c.into_string.result)
    ∙ ap (λ (text : List ℕ). words_of (pairs_in c.args.words.now) text) c.into_string.ensures ∙ c.requires.absent in
    ap paired c.in_ok-insert.ensures.entries ∙ words_added c.args.words.now c.into_string.result c.args.more none
    ∙ ap (λ (text : List ℕ). pairs_in c.args.words.now ++ (text, c.args.more) ∷ []) c.into_string.ensures
