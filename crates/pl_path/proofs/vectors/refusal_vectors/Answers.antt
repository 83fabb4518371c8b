use Rattle.std.proofs.Common.{refl}
use Rattle.pl_path.proofs.OnLiterals.{path_on_literals}
use Rattle.pl_path.proofs.vectors.refusal_vectors.Goals as goal

pub returns-clause-two_dots : goal.returns-clause-two_dots
unfolding path_on_literals
returns-clause-two_dots c = refl

pub returns-clause-leading_zero : goal.returns-clause-leading_zero
unfolding path_on_literals
returns-clause-leading_zero c = refl

pub returns-clause-star_alone : goal.returns-clause-star_alone
unfolding path_on_literals
returns-clause-star_alone c = refl

pub returns-clause-star_before_bad_byte : goal.returns-clause-star_before_bad_byte
unfolding path_on_literals
returns-clause-star_before_bad_byte c = refl

pub returns-clause-star_in_brackets : goal.returns-clause-star_in_brackets
unfolding path_on_literals
returns-clause-star_in_brackets c = refl

pub returns-clause-nothing : goal.returns-clause-nothing
unfolding path_on_literals
returns-clause-nothing c = refl

pub returns-clause-index_too_great : goal.returns-clause-index_too_great
unfolding path_on_literals
returns-clause-index_too_great c = refl

pub returns-clause-name_behind_bracket : goal.returns-clause-name_behind_bracket
unfolding path_on_literals
returns-clause-name_behind_bracket c = refl

pub returns-clause-other_escape : goal.returns-clause-other_escape
unfolding path_on_literals
returns-clause-other_escape c = refl

pub returns-clause-cut_off : goal.returns-clause-cut_off
unfolding path_on_literals
returns-clause-cut_off c = refl

pub returns-clause-no_segments : goal.returns-clause-no_segments
unfolding path_on_literals
returns-clause-no_segments c = refl

pub returns-clause-told : goal.returns-clause-told
unfolding path_on_literals
returns-clause-told c = refl
