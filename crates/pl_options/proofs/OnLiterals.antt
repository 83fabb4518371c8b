-- What an answer unfolds to compute this crate's definitions on literals.
use Rattle.std.specs.Prelude.{⊤}
use Rattle.pl_options.specs.GoalOf.{is_version, option_fault, plain_goal_of}
use Rattle.pl_options.specs.Ignored.{with_ignored}
use Rattle.pl_options.specs.Names.{default_name, default_provider_urn, id_text}
use Rattle.pl_path.proofs.OnLiterals.{path_on_literals}
use Rattle.pl_reference.specs.Reference.{before_last_cut, after_last_cut, is_provider_urn, is_reference}
use Rattle.pl_urn.specs.Cut.{begins_with_cut, has_cut, before_cut, after_cut}
use Rattle.pl_urn.specs.Grammar.{parts_of, has_empty_piece, urn_fault, is_bad_type}
use Rattle.semver.proofs.OnLiterals.{semver_on_literals}
use Rattle.uuid.proofs.OnLiterals.{uuid_on_literals}

unfoldable pub urn_on_literals : ⊤
unfolding begins_with_cut has_cut before_cut after_cut parts_of has_empty_piece urn_fault is_bad_type before_last_cut after_last_cut is_provider_urn is_reference
urn_on_literals = tt

unfoldable pub options_on_literals : ⊤
unfolding urn_on_literals path_on_literals semver_on_literals uuid_on_literals is_version option_fault plain_goal_of with_ignored default_name default_provider_urn id_text
options_on_literals = tt
