-- What a problem more changes of what is kept in memory.
use Rattle.std.specs.Prelude.{not, Option, Some, None}
use Rattle.std.specs.Option.{option_or}
use Rattle.pl_decide.specs.declared.problem.Problem.{Problem}
use Rattle.pl_lemmas.specs.Words.{only_if}
use Rattle.pl_model.specs.History.{is_no_want}
use Rattle.pl_troubles.specs.First.{place_of}
use Rattle.pl_troubles.specs.declared.first.First.{First}
use Rattle.pl_troubles.specs.declared.marks.Marks.{Marks}

-- with what would be kept of a problem if it were the first
abbrev pub with_mark : First → Problem → Marks → Marks
with_mark made problem marks = record {
  first = option_or marks.first (only_if (is_no_want problem) (Some made));
  wanted = option_or marks.wanted (only_if (not (is_no_want problem)) (Some (place_of made)));
}

-- with what would be kept of a problem other than want of memory if it were the first
abbrev pub with_row_mark : First → Marks → Marks
with_row_mark made marks = record marks { first = option_or marks.first (Some made) }

-- the same as the first, where there is a problem
abbrev pub with_mark_of : First → Option Problem → Marks → Marks
with_mark_of made None marks = marks
with_mark_of made (Some problem) marks = with_mark made problem marks
