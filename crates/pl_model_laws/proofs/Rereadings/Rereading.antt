-- A quiet run that reads everything anew has read every row.
use Rattle.std.proofs.Common.{◌≡◌, ◌<◌, ℕ, length, Bool, true, false, if◌then◌else◌, List, ◌∷◌, option_map, slice_get, Option, Some, None, is_none, is_some, refl, sym, ◌∙◌, ap, subst, []}
use Rattle.std.proofs.lemmas.Option.{slice_get_within}
use Rattle.std.specs.Option.{option_or}
use Rattle.pl_lemmas.proofs.Lists.{append_none, map_none}
use Rattle.pl_lemmas.proofs.Each.{each_at}
use Rattle.pl_state.specs.Chain.{provider_row_of}
use Rattle.pl_sound.specs.Sound.{IsSound}
use Rattle.pl_state.specs.declared.entry.Entry.{Entry}
use Rattle.pl_events.specs.declared.event.Event.{Event}
use Rattle.pl_events.specs.declared.operation.Op.TheVariants as op
use Rattle.pl_events.specs.declared.operation.Subject.TheVariants as subject
use Rattle.pl_decide.specs.declared.problem.Problem.TheVariants.{MissingProvider}
use Rattle.pl_events.specs.declared.reply.Reply.{Reply}
use Rattle.pl_model.specs.declared.fixed.Fixed.{Fixed}
use Rattle.pl_model.specs.Run.{HasNames, has_host, is_refresh, rows_of}
use Rattle.pl_model.specs.declared.mode.Mode.{Mode}
use Rattle.pl_model.specs.declared.mode.Mode.TheVariants.{Refresh}
use Rattle.pl_model.specs.Due.{IsQuiet, is_wanted_op, was_read}
use Rattle.pl_model.specs.History.{known_of}
use Rattle.pl_model.specs.Known.{Known, has_problem, is_over, known_by}
use Rattle.pl_model.specs.Legal.{IsOrderly}
use Rattle.pl_lemmas.specs.Words.{first_some}
use Rattle.pl_lemmas.proofs.Options.{list_none}
use Rattle.pl_model.specs.Problems.{at_position, end_problems, is_to_read, names_none, refresh_problems, unread_row}
use Rattle.pl_model.specs.Rows.{row_at, source_of_provider, source_of_row}
use Rattle.pl_model.specs.Tickets.{was_begun}
use Rattle.pl_model_stays.proofs.Lists.Growing.{run_of}
use Rattle.pl_model_stays.proofs.Operations.Once.{history_of}
use Rattle.pl_model_stays.proofs.Work.Waiting.{true_or}
use Rattle.pl_model_stays.proofs.Work.Listing.{read_listed}
use Rattle.pl_model_laws.proofs.Endings.Calm.{calm-before, first_none, no_problems}
use Rattle.pl_model_laws.proofs.Endings.Replying.{reply-came}
use Rattle.pl_model_laws.proofs.Endings.Quieting.{provider_there}
use Rattle.pl_model_laws.proofs.Providing.Serving.{lanes-serve}

-- ---- no row lacks its provider

pub or_first_none : {X : Type 0} (first second : Option X) → option_or first second ≡ None → first ≡ None
or_first_none None second h = refl
or_first_none (Some x) second h = absurd (let e : Some x ≡ None = h in cc)

-- what stood at the start stands
pub start_calm : (run : Fixed) (history : List Event) → has_problem (known_of run history) ≡ false → has_problem (known_of run []) ≡ false
start_calm run [] calm = calm
start_calm run (event ∷ past) calm = start_calm run past (calm-before run event past calm)

pub none_missing : (run : Fixed) → is_refresh run.mode ≡ true → has_problem (known_of run []) ≡ false → refresh_problems run ≡ []
unfolding known_of
none_missing run anew calm =
    map_none _ _ (subst (λ (b : Bool). at_position 0 (if b then refresh_problems run
    else (if is_over (known_by run [] [] [] []) then end_problems (known_by run [] [] [] []) else [])) ≡ []) anew (no_problems (known_of run []) calm))

pub has_provider : (entry : Entry) → is_to_read entry ≡ true → unread_row entry ≡ None → is_none entry.provider ≡ false
has_provider entry reads h = by (is_none entry.provider) refl (subst (λ (b : Bool). (if b then names_none entry else None) ≡ None) reads h)
  where
    by : (b : Bool) → is_none entry.provider ≡ b → (if is_none entry.provider then Some (MissingProvider entry.urn) else None) ≡ None → is_none entry.provider ≡ false
    by false is h = is
    by true is h = absurd (let e : Some (MissingProvider entry.urn) ≡ None = subst (λ (b : Bool). (if b then Some (MissingProvider entry.urn) else None) ≡ None) is h in cc)

-- a run that reads everything anew has no host, and needs no names
no_host : (run : Fixed) → is_refresh run.mode ≡ true → HasNames run
no_host run anew hosting = absurd (by run.mode anew hosting)
  where
    by : (mode : Mode) → is_refresh mode ≡ true → has_host mode ≡ true → ⊥
    by (Refresh clear imports) h k = let e : false ≡ true = k in cc
    by _ h k = let e : false ≡ true = h in cc

-- ---- the law

module _ (run : Fixed) (history : List Event) (anew : is_refresh run.mode ≡ true) (some : 0 < run.parallel)
    (sound : IsSound (rows_of run)) (orderly : IsOrderly run history)
    (calm : has_problem (known_of run history) ≡ false) (quiet : IsQuiet (known_of run history)) (row : ℕ) (entry : Entry)
    (stands : row_at (known_of run history) row ≡ Some entry) (reads : is_to_read entry ≡ true) where
  abbrev known : Known
  known = known_of run history

  here : slice_get (rows_of run) row ≡ Some entry
  here = ap (λ (fixed : Fixed). slice_get (rows_of fixed) row) (sym (run_of run history)) ∙ stands

  provided : is_none entry.provider ≡ false
  provided =
      let missing = none_missing run anew (start_calm run history calm) in
      let second = (append_none _ _ (append_none _ _ missing).1).0 in
      let unread = or_first_none (first_some unread_row (rows_of run)) _ (list_none _ second) in
      has_provider entry reads (each_at (λ (one : Entry). unread_row one ≡ None) (rows_of run) row entry (first_none unread_row (rows_of run) unread) here)

  begun : was_begun history (op.Read (subject.Row row)) ≡ true
  begun = true_or (was_begun history (op.Read (subject.Row row))) (λ unbegun.
      let own = provider_there (rows_of run) row entry sound here provided in
      let from : source_of_row known row ≡ Some (source_of_provider known own.0) =
      ap (λ (fixed : Fixed). option_map (source_of_provider known) (provider_row_of (rows_of fixed) row)) (run_of run history)
      ∙ ap (λ (o : Option ℕ). option_map (source_of_provider known) o) own.1 in
      let never : was_begun known.history (op.Read (subject.Row row)) ≡ false =
      subst (λ (events : List Event). was_begun events (op.Read (subject.Row row)) ≡ false) (sym (history_of run history)) unbegun in
      let mode : is_refresh known.run.mode ≡ true = ap (λ (fixed : Fixed). is_refresh fixed.mode) (run_of run history) ∙ anew in
      let wants : is_wanted_op known (op.Read (subject.Row row)) ≡ true = rw never (rw mode (rw stands reads)) in
      let low : row < length (rows_of known.run) = slice_get_within (rows_of known.run) row entry stands in
      lanes-serve run history orderly calm quiet (no_host run anew) some (op.Read (subject.Row row)) (source_of_provider known own.0) from wants (read_listed known row low))

  pub row-read : was_read known row ≡ true
  row-read = let came = reply-came run history orderly calm quiet.closed (op.Read (subject.Row row)) begun in
      ap (λ (o : Option Reply). is_some o) came.1
