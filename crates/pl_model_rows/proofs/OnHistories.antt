-- What an answer unfolds to compute the definitions over a history on literals.
use Rattle.std.specs.Prelude.{⊤}
use Rattle.pl_value.specs.Marks.{secret_key, unknown_text}
use Rattle.pl_reference.specs.Reference.{reference_in}
use Rattle.pl_options.proofs.OnLiterals.{options_on_literals}
use Rattle.pl_model.specs.History.{known_of}
use Rattle.pl_model.specs.State.{opened_of}

unfoldable pub on_histories : ⊤
unfolding options_on_literals secret_key unknown_text reference_in known_of opened_of
on_histories = tt
