-- What a recording gives to an entry, and the entries that keeps and replies record.
use Rattle.std.specs.Prelude.{ℕ, Bool, Option, option_and_then, option_map}
use Rattle.pl_entries.specs.declared.recording.Recording.{Recording}
use Rattle.pl_events.specs.declared.reply.Reply.{Reply}
use Rattle.pl_lemmas.specs.Words.{none_or}
use Rattle.pl_model.specs.Claims.{claimed_row}
use Rattle.pl_model.specs.Entries.{Result, goal_entry, result_of_keep, result_of_reply}
use Rattle.pl_model.specs.Known.{Known, decided_goal, goal_at, is_decided}
use Rattle.pl_state.specs.declared.entry.Entry.{Entry}

-- a recording as the definitions over a history read it
abbrev pub recorded_result : Recording → Result
recorded_result recording = record {
  id = recording.id;
  outputs = recording.outputs;
  reasons = recording.reasons;
  rest = recording.rest;
}

-- whether something is decided of a goal's provider, if it has one
abbrev pub is_provider_decided : Known → ℕ → Bool
is_provider_decided known number = none_or (λ goal. none_or (is_decided known) goal.provider) (goal_at known number)

-- the entry that a keep records of a goal
abbrev pub kept_entry : Known → ℕ → Option ℕ → Option Entry
kept_entry known number fresh =
    option_and_then (λ goal. option_map (λ one.
    goal_entry known goal one (result_of_keep goal (claimed_row known.run one.claim) one fresh))
    (decided_goal known number)) (goal_at known number)

-- the entry that a reply records of a goal
abbrev pub replied_entry : Known → ℕ → Reply → Option Entry
replied_entry known number reply =
    option_and_then (λ goal. option_and_then (λ one.
    option_map (goal_entry known goal one) (result_of_reply (claimed_row known.run one.claim) reply))
    (decided_goal known number)) (goal_at known number)
