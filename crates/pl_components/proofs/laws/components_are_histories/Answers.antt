use Rattle.pl_world.specs.Counts.{Rose}
use Rattle.pl_components.proofs.Legality as legality
use Rattle.pl_components.proofs.Lines as lines
use Rattle.pl_components.proofs.Outcomes as outcomes
use Rattle.pl_components.proofs.Saving as saving
use Rattle.pl_components.proofs.States as states
use Rattle.pl_components.proofs.laws.components_are_histories.Goals as goal

pub returns : goal.returns
returns c = record {
  states = states.states_agree;
  legal = legality.legal_too;
  quiet = legality.quiet_too;
  outcomes = outcomes.outcomes_agree;
  fulfils = legality.fulfils_too;
  lines = lines.lines_too;
  saved = λ run parallel spelling history h before now. saving.saved_too run parallel spelling history h (Rose before now);
  story = λ run parallel spelling history h before now. saving.story_too run parallel spelling history h (Rose before now);
  answered = saving.answered_too;
}
