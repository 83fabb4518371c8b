-- The laws of the model that the core stands on.
use Rattle.pl_model_step.specs.Law.{SummarySteps, SummaryTells}
use Rattle.pl_model_step.specs.Reads.{PlainReadsSame}

pub record Laws : Type 0 where
  -- one event more changes the summary of a history as the step says
  pub steps : SummarySteps
  -- the summary has what the history tells of its tickets
  pub tells : SummaryTells
  -- the plain events of the summary are read as the history is
  pub reads : PlainReadsSame
