-- Why requests are refused, by what is asked of them one after the other.
use Rattle.std.proofs.Common.{◌≡◌, ℕ, Bool, not, ◌&&◌, List, Option, Some, option_map}
use Rattle.std.specs.Option.{option_or}
use Rattle.pl_lemmas.specs.Words.{first_in}
use Rattle.pl_decide.specs.declared.problem.Problem.{Problem}
use Rattle.pl_decide.specs.declared.problem.Problem.TheVariants.{BadOption, DuplicateUrn, UnknownReference}
use Rattle.pl_reference.specs.Reference.{is_reference}
use Rattle.pl_state.specs.declared.fault.OptionFault.TheVariants.{BadReference, BadUrn}
use Rattle.pl_state.specs.declared.goal.Goal.{Goal}
use Rattle.pl_state.specs.declared.goal.Registration.{Registration}
use Rattle.pl_urn.specs.Grammar.{package_of}
use Rattle.pl_model.specs.Known.{Known}
use Rattle.pl_model.specs.Requests.{goal_refusal, has_goal, invoke_refusal, is_bad_default, is_met_reference, refused_if, unknown_references, uses_default}

pub goal_refused : (known : Known) (told : Registration) (goal : Goal) (lacks : Bool) (unknown : Option (List ℕ)) (twice : Option Problem)
    → (uses_default told goal && is_bad_default (package_of goal.urn) goal.version) ≡ lacks
    → first_in (unknown_references known told goal) ≡ unknown
    → refused_if (has_goal known goal.urn) (DuplicateUrn goal.urn) ≡ twice
    → goal_refusal known told goal
    ≡ option_or (refused_if lacks (BadOption (BadUrn goal.kind))) (option_or (option_map UnknownReference unknown) twice)
goal_refused known told goal lacks unknown twice a b c =
    λ i. option_or (refused_if (a i) (BadOption (BadUrn goal.kind))) (option_or (option_map UnknownReference (b i)) (c i))

pub named_refused : (known : Known) (token text : List ℕ) (version : Option (List ℕ)) (reads meets : Bool)
    → is_reference text ≡ reads → is_met_reference known text ≡ meets
    → invoke_refusal known token (Some text) version
    ≡ option_or (refused_if (not reads) (BadOption (BadReference text))) (refused_if (not meets) (UnknownReference text))
named_refused known token text version reads meets a b =
    λ i. option_or (refused_if (not (a i)) (BadOption (BadReference text))) (refused_if (not (b i)) (UnknownReference text))
