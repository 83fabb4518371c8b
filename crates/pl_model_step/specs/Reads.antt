-- What is read of a summary in place of its history.
use Rattle.std.specs.Prelude.{◌≡◌, List}
use Rattle.pl_events.specs.Closing.{has_host_end, has_stop}
use Rattle.pl_events.specs.declared.event.Event.{Event}
use Rattle.pl_model.specs.declared.fixed.Fixed.{Fixed}
use Rattle.pl_model.specs.Tickets.{errand_at, is_coming, is_free, is_open, lane_count, lane_free, lanes_from, open_errands, was_begun, was_configured}
use Rattle.pl_model.specs.Recording.{cleared_of, fresh_of, posted_of, recorded_of, removed_of}
use Rattle.pl_model.specs.Asked.{ask_of}
use Rattle.pl_model.specs.Due.{is_clear_ready, is_delete_ready, is_drop_ready, is_keep_ready, is_post_due, is_wanted_op}
use Rattle.pl_model.specs.Entries.{old_row}
use Rattle.pl_model.specs.History.{known_of}
use Rattle.pl_model.specs.Known.{Known, is_over, is_recorded}
use Rattle.pl_model.specs.Requests.{fate_of}
use Rattle.pl_model.specs.Rows.{is_doomed, is_left, is_marked, is_sent}
use Rattle.pl_model.specs.State.{pending_for, was_answered}
use Rattle.pl_model.specs.Step.{known_in, plain_history, summary_of}

-- two histories of which the same is read: tickets, lanes, goals, rows, pending operations, requests and ends
pub record ReadsSame (a b : List Event) : Type 0 where
  pub errands : errand_at a ≡ errand_at b
  pub tickets : is_open a ≡ is_open b
  pub out : open_errands a ≡ open_errands b
  pub answered : was_answered a ≡ was_answered b
  pub begun : was_begun a ≡ was_begun b
  pub count : lane_count a ≡ lane_count b
  pub lanes : lanes_from a ≡ lanes_from b
  pub free : is_free a ≡ is_free b
  pub first_free : lane_free a ≡ lane_free b
  pub coming : is_coming a ≡ is_coming b
  pub configured : was_configured a ≡ was_configured b
  pub recorded : recorded_of a ≡ recorded_of b
  pub fresh : fresh_of a ≡ fresh_of b
  pub removed : removed_of a ≡ removed_of b
  pub cleared : cleared_of a ≡ cleared_of b
  pub posted : posted_of a ≡ posted_of b
  pub ended : has_host_end a ≡ has_host_end b
  pub stopped : has_stop a ≡ has_stop b

-- of which the same is known: fates, rows, what is to be done, the limit and lanes aside, what is asked and opened
pub record KnowsSame (a b : Known) : Type 0 where
  pub fates : fate_of a ≡ fate_of b
  pub recorded : is_recorded a ≡ is_recorded b
  pub over : is_over a ≡ is_over b
  pub left : is_left a ≡ is_left b
  pub marked : is_marked a ≡ is_marked b
  pub doomed : is_doomed a ≡ is_doomed b
  pub sent : is_sent a ≡ is_sent b
  pub old : old_row a ≡ old_row b
  pub posts : is_post_due a ≡ is_post_due b
  pub keeps : is_keep_ready a ≡ is_keep_ready b
  pub clears : is_clear_ready a ≡ is_clear_ready b
  pub drops : is_drop_ready a ≡ is_drop_ready b
  pub deletes : is_delete_ready a ≡ is_delete_ready b
  pub wanted : is_wanted_op a ≡ is_wanted_op b
  pub asks : ask_of a ≡ ask_of b
  pub opens : pending_for a ≡ pending_for b

-- the plain events of a history's summary are read as the history is
abbrev pub PlainReadsSame : Type 0
PlainReadsSame = (run : Fixed) (history : List Event) → ReadsSame history (plain_history (summary_of run history))

-- what its summary tells is what the history tells
abbrev pub SummaryKnowsSame : Type 0
SummaryKnowsSame = (run : Fixed) (history : List Event) → KnowsSame (known_of run history) (known_in run (summary_of run history))
