-- What tickets tell is read from the rows and lanes that are kept of them.
use Rattle.std.proofs.Common.{◌≡◌, ◌+◌, ℕ, Bool, true, false, ◌==◌, not, ◌&&◌, ◌||◌, cond, nat_lt, List, [], ◌∷◌, ◌++◌, length, map, reverse, Option, Some, None, option_and_then, option_map, refl, sym, ap, ◌∙◌, arith}
use Rattle.std.proofs.lemmas.Bool.Decides.{nat_tests}
use Rattle.std.proofs.lemmas.List.{length-reverse, reverse-reverse}
use Rattle.std.proofs.lemmas.List.Sums.{length-filter, sum_by-cons}
use Rattle.std.specs.List.{count_by, filter, find, list_any, position, range_with_len, slice_get}
use Rattle.std.specs.Option.{is_some, option_or}
use Rattle.pl_lemmas.proofs.Options.{or_none}
use Rattle.pl_lemmas.proofs.Lists.{any_reversed, any_mapped}
use Rattle.pl_value.specs.Inside.{greatest}
use Rattle.pl_lemmas.specs.Words.{has_number, some_passes}
use Rattle.pl_events.specs.declared.event.Event.{Event}
use Rattle.pl_events.specs.declared.operation.Op.{Op}
use Rattle.pl_events.specs.declared.operation.Source.{Source}
use Rattle.pl_events.specs.declared.reply.Reply.{Reply}
use Rattle.pl_model.specs.declared.errand.Closed.{Closed}
use Rattle.pl_model.specs.declared.errand.Errand.{Errand}
use Rattle.pl_model.specs.Tickets.{begun_of, has_configured, is_closed, is_coming as coming_in, is_configured as configured_in, is_free as free_in, is_lost as lost_in, is_open as open_in, is_out as out_in, is_source, lane_count, lane_free, lane_source, lanes_from, loses, next_ticket, open_errands, reply_if, reply_to, same_op, source_begun, was_begun, was_configured}
use Rattle.pl_errands.specs.declared.lane.Lane.{Lane}
use Rattle.pl_errands.specs.declared.row.Replied.{Replied}
use Rattle.pl_errands.specs.declared.row.Row.{Row}
use Rattle.pl_errands.specs.declared.row.Standing.{Standing}
use Rattle.pl_errands.specs.declared.row.Standing.TheVariants as standing
use Rattle.pl_errands.specs.Tickets.{Tickets, events_of}
use Rattle.pl_errands.specs.Rows.{AgreeRows, AreNumbered, is_answered, is_configured, is_lost, is_open, is_open_row, tickets_by}
use Rattle.pl_errands.specs.Lanes.{AgreeLanes, errands_in, is_coming_lane, is_free_lane, is_from, is_out_lane, out_of}
use Rattle.pl_errands.proofs.Events.{begun_read, closed_read, configured_read, lost_read}
use Rattle.pl_errands.proofs.LaneSteps.{after, is_on}
use Rattle.pl_errands.proofs.Lists.{Each, any-filter, any-same, count-same, filter-map, greatest-reverse, map-length, map-reversed, reverse-cons, sum-reverse}
use Rattle.pl_errands.proofs.Places.{any_numbered, any_place, count_places, first_place}

and_turned : (a b : Bool) → (a && b) ≡ (b && a)
and_turned true true = refl
and_turned true false = refl
and_turned false true = refl
and_turned false false = refl

some_counted : (b : Bool) (n : ℕ) → (b || nat_lt 0 n) ≡ nat_lt 0 (cond b 1 0 + n)
some_counted true n = grind (arith, nat_tests)
some_counted false n = ap (nat_lt 0) (omega arith)

-- some element passes where their count is not 0
any_counted : {X : Type 0} (p : X → Bool) (xs : List X) → list_any p xs ≡ nat_lt 0 (count_by p xs)
any_counted p [] = refl
any_counted p (x ∷ xs) =
    ap (λ (b : Bool). p x || b) (any_counted p xs)
    ∙ some_counted (p x) (count_by p xs)
    ∙ sym (ap (nat_lt 0) (sum_by-cons (λ y. cond (p y) 1 0) x xs))

not_open : (became : Standing) → not (is_lost became || (is_configured became || is_answered became)) ≡ is_open became
not_open standing.Open = refl
not_open standing.Answered = refl
not_open standing.Configured = refl
not_open standing.Lost = refl

pub out_passes : (lane : Option Lane) → nat_lt 0 (out_of lane) ≡ some_passes is_out_lane lane
out_passes None = refl
out_passes (Some lane) = refl

free_passes : (lane : Option Lane) → (some_passes (λ one. one.configured) lane && not (some_passes is_out_lane lane) && not (some_passes (λ one. one.lost) lane)) ≡ some_passes is_free_lane lane
free_passes None = refl
free_passes (Some lane) = refl

flat_map : (o : Option Errand) (lane : Option Lane) → option_map (λ one. source_begun one.op) o ≡ option_map (λ one. one.source) lane
    → option_and_then (λ one. source_begun one.op) o ≡ option_and_then (λ one. one.source) lane
flat_map None None e = refl
flat_map None (Some lane) e = absurd (let none : None ≡ Some lane.source = e in cc)
flat_map (Some errand) None e = absurd (let none : Some (source_begun errand.op) ≡ None = e in cc)
flat_map (Some errand) (Some lane) e = let same : Some (source_begun errand.op) ≡ Some lane.source = e in cc

module _ (rows : List Row) (replies : List Replied) (lost : List ℕ) (numbered : AreNumbered rows)
    (agree : AgreeRows rows (tickets_by rows replies lost)) where
  abbrev tickets : Tickets
  tickets = tickets_by rows replies lost

  abbrev events : List Event
  events = events_of tickets

  pub begun_rows : begun_of events ≡ reverse (errands_in rows)
  begun_rows = begun_read tickets ∙ map-reversed (λ row. row.errand) rows

  -- ---- what became of a ticket

  row_passes : (test : Standing → Bool) (numbers : List ℕ)
      → ((number : ℕ) → has_number numbers number ≡ some_passes (λ row. test row.standing) (slice_get rows number))
      → Each rows (λ place row. has_number numbers row.errand.ticket ≡ test row.standing)
  row_passes test numbers h place row is =
      ap (has_number numbers) (numbered place row is) ∙ h place ∙ ap (some_passes (λ one. test one.standing)) is

  open_told : Each rows (λ place row. not (is_closed events row.errand.ticket) ≡ is_open_row row)
  open_told place row is =
      ap not (closed_read tickets row.errand.ticket
      ∙ (λ i. row_passes is_lost tickets.lost agree.lost place row is i
      || (row_passes is_configured tickets.configured agree.configured place row is i
      || row_passes is_answered tickets.answered agree.answered place row is i)))
      ∙ not_open row.standing

  configured_told : Each rows (λ place row. has_configured events row.errand ≡ is_configured row.standing)
  configured_told place row is =
      configured_read tickets row.errand ∙ row_passes is_configured tickets.configured agree.configured place row is

  lost_told : Each rows (λ place row. list_any (λ event. loses row.errand.ticket event.what) events ≡ is_lost row.standing)
  lost_told place row is =
      lost_read tickets row.errand.ticket ∙ row_passes is_lost tickets.lost agree.lost place row is

  -- ---- operations

  any_begun : (p : Errand → Bool) → list_any p (begun_of events) ≡ list_any (λ row. p row.errand) rows
  any_begun p = ap (list_any p) begun_rows ∙ any_reversed p (errands_in rows) ∙ any_mapped p (λ row. row.errand) rows

  any_open : (p : Errand → Bool) → list_any p (open_errands events) ≡ list_any (λ row. is_open_row row && p row.errand) rows
  any_open p =
      any-filter p (λ errand. not (is_closed events errand.ticket)) (begun_of events)
      ∙ any_begun (λ errand. not (is_closed events errand.ticket) && p errand)
      ∙ any-same (λ row. not (is_closed events row.errand.ticket) && p row.errand) (λ row. is_open_row row && p row.errand) rows
      (λ place row is. ap (λ (b : Bool). b && p row.errand) (open_told place row is))

  pub open_at : (ticket : ℕ) → open_in events ticket ≡ some_passes is_open_row (slice_get rows ticket)
  open_at ticket =
      any_open (λ errand. errand.ticket == ticket)
      ∙ any_numbered (λ row. row.errand.ticket) is_open_row rows ticket numbered

  pub open_count : length (open_errands events) ≡ count_by is_open_row rows
  open_count =
      ap (λ (errands : List Errand). length (filter (λ errand. not (is_closed events errand.ticket)) errands)) (begun_read tickets)
      ∙ ap length (filter-map (λ errand. not (is_closed events errand.ticket)) (λ row. row.errand) (reverse rows))
      ∙ map-length (λ row. row.errand) (filter (λ row. not (is_closed events row.errand.ticket)) (reverse rows))
      ∙ length-filter (λ row. not (is_closed events row.errand.ticket)) (reverse rows)
      ∙ sum-reverse (λ row. cond (not (is_closed events row.errand.ticket)) 1 0) rows
      ∙ count-same (λ row. not (is_closed events row.errand.ticket)) is_open_row rows open_told

  some_first : {X : Type 0} (xs : List X) → is_some (slice_get xs 0) ≡ nat_lt 0 (length xs)
  some_first [] = refl
  some_first (x ∷ xs) = grind (arith, nat_tests)

  pub has_open : is_some (slice_get (open_errands events) 0) ≡ nat_lt 0 (count_by is_open_row rows)
  has_open = some_first (open_errands events) ∙ ap (nat_lt 0) open_count

  pub next_row : next_ticket events ≡ length rows
  next_row = ap length begun_rows ∙ length-reverse (errands_in rows) ∙ map-length (λ row. row.errand) rows

  pub begun_at : (about : Op) → was_begun events about ≡ list_any (λ row. same_op row.errand.op about) rows
  begun_at about = any_begun (λ errand. same_op errand.op about)

  -- ---- lanes

  module _ (lanes : List Lane) (told : AgreeLanes rows lanes) where
    pub count_at : lane_count events ≡ length lanes
    count_at =
        ap (λ (errands : List Errand). greatest (map after errands)) begun_rows
        ∙ greatest-reverse after (errands_in rows) ∙ told.count

    pub source_at : (lane : ℕ) → lane_source events lane ≡ option_and_then (λ one. one.source) (slice_get lanes lane)
    source_at lane =
        ap (λ (errands : List Errand). option_and_then (λ one. source_begun one.op) (find (λ one. one.lane == lane) errands))
        (ap reverse begun_rows ∙ reverse-reverse (errands_in rows))
        ∙ flat_map (find (λ one. one.lane == lane) (errands_in rows)) (slice_get lanes lane) (told.first lane)

    pub configured_at : (lane : ℕ) → configured_in events lane ≡ some_passes (λ one. one.configured) (slice_get lanes lane)
    configured_at lane =
        any_begun (λ errand. errand.lane == lane && has_configured events errand)
        ∙ any-same (λ row. row.errand.lane == lane && has_configured events row.errand) (λ row. row.errand.lane == lane && is_configured row.standing) rows
        (λ place row is. ap (λ (b : Bool). row.errand.lane == lane && b) (configured_told place row is))
        ∙ told.configured lane

    pub lost_at : (lane : ℕ) → lost_in events lane ≡ some_passes (λ one. one.lost) (slice_get lanes lane)
    lost_at lane =
        any_begun (λ errand. errand.lane == lane && list_any (λ event. loses errand.ticket event.what) events)
        ∙ any-same (λ row. row.errand.lane == lane && list_any (λ event. loses row.errand.ticket event.what) events)
        (λ row. row.errand.lane == lane && is_lost row.standing) rows
        (λ place row is. ap (λ (b : Bool). row.errand.lane == lane && b) (lost_told place row is))
        ∙ told.lost lane

    pub out_at : (lane : ℕ) → out_in events lane ≡ some_passes is_out_lane (slice_get lanes lane)
    out_at lane =
        any_open (λ errand. errand.lane == lane)
        ∙ any-same (λ row. is_open_row row && row.errand.lane == lane) (is_on lane) rows
        (λ place row is. and_turned (is_open_row row) (row.errand.lane == lane))
        ∙ any_counted (is_on lane) rows
        ∙ ap (nat_lt 0) (told.out lane)
        ∙ out_passes (slice_get lanes lane)

    pub free_at : (lane : ℕ) → free_in events lane ≡ some_passes is_free_lane (slice_get lanes lane)
    free_at lane =
        (λ i. configured_at lane i && not (out_at lane i) && not (lost_at lane i))
        ∙ free_passes (slice_get lanes lane)

    -- ---- the lanes of a provider

    from_at : (wanted : Source) → Each lanes (λ place lane. is_source (lane_source events place) wanted ≡ is_from wanted lane)
    from_at wanted place lane is =
        ap (λ (own : Option Source). is_source own wanted) (source_at place ∙ ap (option_and_then (λ one. one.source)) is)

    abbrev among : Source → ℕ → Bool
    among wanted lane = is_source (lane_source events lane) wanted

    pub free_first : (wanted : Source) → lane_free events wanted ≡ position (λ lane. is_from wanted lane && is_free_lane lane) lanes
    free_first wanted =
        ap (λ (count : ℕ). find (free_in events) (filter (among wanted) (range_with_len 0 count))) count_at
        ∙ first_place (free_in events) (among wanted) (λ lane. is_from wanted lane && is_free_lane lane) lanes
        (λ place lane is. λ i. from_at wanted place lane is i && (free_at place ∙ ap (some_passes is_free_lane) is) i)

    pub from_count : (wanted : Source) → length (lanes_from events wanted) ≡ count_by (is_from wanted) lanes
    from_count wanted =
        ap (λ (count : ℕ). length (filter (among wanted) (range_with_len 0 count))) count_at
        ∙ count_places (among wanted) (is_from wanted) lanes (from_at wanted)

    pub configured_any : (wanted : Source) → was_configured events wanted ≡ list_any (λ lane. is_from wanted lane && lane.configured) lanes
    configured_any wanted =
        ap (λ (count : ℕ). list_any (configured_in events) (filter (among wanted) (range_with_len 0 count))) count_at
        ∙ any_place (configured_in events) (among wanted) (λ lane. is_from wanted lane && lane.configured) lanes
        (λ place lane is. λ i. from_at wanted place lane is i && (configured_at place ∙ ap (some_passes (λ one. one.configured)) is) i)

    coming_at : Each lanes (λ place lane. coming_in events place ≡ is_coming_lane lane)
    coming_at place lane is =
        λ i. not ((configured_at place ∙ ap (some_passes (λ one. one.configured)) is) i)
        && not ((lost_at place ∙ ap (some_passes (λ one. one.lost)) is) i)

    pub coming_any : (wanted : Source) → list_any (coming_in events) (lanes_from events wanted)
        ≡ list_any (λ lane. is_from wanted lane && is_coming_lane lane) lanes
    coming_any wanted =
        ap (λ (count : ℕ). list_any (coming_in events) (filter (among wanted) (range_with_len 0 count))) count_at
        ∙ any_place (coming_in events) (among wanted) (λ lane. is_from wanted lane && is_coming_lane lane) lanes
        (λ place lane is. λ i. from_at wanted place lane is i && coming_at place lane is i)

-- ---- replies

or_regrouped : {X : Type 0} (a b c : Option X) → option_or (option_or a b) c ≡ option_or a (option_or b c)
or_regrouped None b c = refl
or_regrouped (Some x) b c = refl

-- the reply of two lists is that of the earlier one, if it has one
reply_append : (later earlier : List Closed) (about : Op) → reply_to (later ++ earlier) about ≡ option_or (reply_to earlier about) (reply_to later about)
reply_append [] earlier about = sym (or_none (reply_to earlier about))
reply_append (closed ∷ later) earlier about =
    let here : Option Reply = reply_if (same_op closed.op about) closed.reply in
    ap (λ (o : Option Reply). option_or o here) (reply_append later earlier about)
    ∙ or_regrouped (reply_to earlier about) (reply_to later about) here

reply_next : (b : Bool) (one : Replied) (rest : Option Replied) → option_or (reply_if b one.closed.reply) (option_map (λ other. other.closed.reply) rest)
    ≡ option_map (λ other. other.closed.reply) (cond b (Some one) rest)
reply_next true one rest = refl
reply_next false one rest = refl

-- the first reply to an operation is that of the first one that came
pub reply_at : (replies : List Replied) (about : Op) → reply_to (map (λ one. one.closed) (reverse replies)) about
    ≡ option_map (λ one. one.closed.reply) (find (λ one. same_op one.closed.op about) replies)
reply_at [] about = refl
reply_at (one ∷ replies) about =
    ap (λ (closed : List Closed). reply_to closed about)
    (map-reversed (λ other. other.closed) (one ∷ replies) ∙ reverse-cons one.closed (map (λ other. other.closed) replies)
    ∙ ap (λ (closed : List Closed). closed ++ one.closed ∷ []) (sym (map-reversed (λ other. other.closed) replies)))
    ∙ reply_append (map (λ other. other.closed) (reverse replies)) (one.closed ∷ []) about
    ∙ ap (option_or (reply_if (same_op one.closed.op about) one.closed.reply)) (reply_at replies about)
    ∙ reply_next (same_op one.closed.op about) one (find (λ other. same_op other.closed.op about) replies)
