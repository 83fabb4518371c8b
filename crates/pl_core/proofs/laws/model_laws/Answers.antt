use Rattle.pl_core.proofs.laws.model_laws.Goals as goal

pub returns : goal.returns
returns c = record { steps = c.summary_steps.ensures; tells = c.summary_tells.ensures; reads = c.plain_reads_same.ensures }
