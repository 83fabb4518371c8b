-- Where nothing is out, due or over the limit, everything is done.
use Rattle.std.proofs.Common.{◌≡◌, ◌<◌, ℕ, suc, length, Bool, true, false, not, ◌||◌, List, [], ◌∷◌, option_and_then, slice_get, take, Option, Some, None, is_none, is_some, refl, sym, ◌∙◌, ap, subst}
use Rattle.std.specs.List.{list_any}
use Rattle.pl_lemmas.proofs.Options.{some_there}
use Rattle.pl_reference.specs.declared.reference.ProviderRef.{ProviderRef}
use Rattle.pl_state.specs.Chain.{last_from, last_place, last_provider, or_else_place, provider_row_of}
use Rattle.pl_state.specs.References.{is_provider}
use Rattle.pl_sound.specs.Sound.{IsSound}
use Rattle.pl_state.specs.declared.entry.Entry.{Entry}
use Rattle.pl_state.specs.declared.goal.Goal.{Goal}
use Rattle.pl_events.specs.declared.event.Event.{Event}
use Rattle.pl_events.specs.declared.event.What.{What}
use Rattle.pl_events.specs.declared.event.What.TheVariants.{Told}
use Rattle.pl_events.specs.Closing.{has_host_end}
use Rattle.pl_model.specs.declared.fixed.Fixed.{Fixed}
use Rattle.pl_model.specs.Run.{HasNames, has_host, is_destroy, is_preview, is_refresh, rows_of}
use Rattle.pl_model.specs.declared.mode.Mode.{Mode}
use Rattle.pl_model.specs.declared.mode.Mode.TheVariants.{Up, Preview, Destroy, Refresh}
use Rattle.pl_lemmas.specs.Words.{numbered}
use Rattle.pl_model.specs.Due.{IsQuiet}
use Rattle.pl_model.specs.History.{goals_after, known_of}
use Rattle.pl_model.specs.Known.{Known, goal_at, has_problem, host_ended}
use Rattle.pl_model.specs.Legal.{IsOrderly, MayHappen}
use Rattle.pl_model_stays.proofs.Lists.Growing.{run_of}
use Rattle.pl_model_laws.specs.Quiet.{IsAllDone}
use Rattle.pl_model_laws.proofs.Endings.Circling.{IsStill, everything_done}
use Rattle.pl_model_laws.proofs.Endings.Ending.{end-held, end-provided}
use Rattle.pl_model_laws.proofs.Urns.Freeing.{urn-ready}
use Rattle.pl_model_laws.proofs.References.Places.{provided-named, references-ready}
use Rattle.pl_model_laws.proofs.Endings.Replying.{goal-recorded, reply-came, row-removed}
use Rattle.pl_model_laws.proofs.Providing.Serving.{lanes-serve, provider-configured}
use Rattle.pl_model_laws.proofs.References.Sounding.{sound-apart, sound-back}
use Rattle.pl_model_laws.proofs.Rows.TakenOver.{all-decided}
use Rattle.pl_model_laws.proofs.Endings.Troubles.{lacking-trouble, refused-trouble}
use Rattle.pl_model_laws.proofs.References.Wants.{provider_met}
use Rattle.pl_model_laws.proofs.Endings.Working.{config-serves, no-drop, no-keep}

-- ---- the provider of a row

-- where one of the rows passes there is a last one that does
last_there : (test : Entry → Bool) (place : ℕ) (rows : List Entry) → list_any test rows ≡ true → is_some (last_from test place rows) ≡ true
last_there test place [] h = absurd (let e : false ≡ true = h in cc)
last_there test place (row ∷ rows) h = by (test row) refl (last_from test (suc place) rows) refl h (last_there test (suc place) rows)
  where
    by : (b : Bool) → test row ≡ b → (o : Option ℕ) → last_from test (suc place) rows ≡ o → (b || list_any test rows) ≡ true
        → (list_any test rows ≡ true → is_some (last_from test (suc place) rows) ≡ true)
        → is_some (or_else_place (last_from test (suc place) rows) (test row) place) ≡ true
    by b is (Some later) found h rest = rw found refl
    by true is None found h rest = rw found (rw is refl)
    by false is None found h rest = absurd (let e : false ≡ true = sym (ap (λ (o : Option ℕ). is_some o) found) ∙ rest h in cc)

-- in a sound list each row that names a provider finds its row
pub provider_there : (rows : List Entry) (place : ℕ) (row : Entry) → IsSound rows → slice_get rows place ≡ Some row → is_none row.provider ≡ false
    → (own : ℕ) × (provider_row_of rows place ≡ Some own)
provider_there rows place row sound here names = by row.provider refl names
  where
    by : (o : Option ProviderRef) → row.provider ≡ o → is_none o ≡ false → (own : ℕ) × (provider_row_of rows place ≡ Some own)
    by None is none = absurd (let e : true ≡ false = none in cc)
    by (Some reference) is some =
        let met = provider_met (take place rows) row (sound-back rows sound place row here) reference is in
        let found = some_there (last_place (is_provider reference) (take place rows)) (last_there (is_provider reference) 0 (take place rows) met) in (
          found.0,
          ap (λ (o : Option Entry). option_and_then (λ (it : Entry). last_provider it.provider (take place rows)) o) here
              ∙ ap (λ (o : Option ProviderRef). last_provider o (take place rows)) is ∙ found.1,
        )

-- ---- a run with a goal has a host

destroys_none : (mode : Mode) (ended : Bool) → (not (has_host mode) || ended) ≡ false → is_destroy mode ≡ false
destroys_none Up ended h = refl
destroys_none Preview ended h = refl
destroys_none Destroy ended h = absurd (let e : true ≡ false = h in cc)
destroys_none (Refresh clear imports) ended h = refl

hosted_step : (known : Known) (seat : ℕ) (what : What) (n : ℕ) (goal : Goal) → MayHappen known seat what
    → (goal_at known n ≡ Some goal → is_destroy known.run.mode ≡ false) → numbered (goals_after known what) n ≡ Some goal
    → is_destroy known.run.mode ≡ false
hosted_step known seat (Told request) n goal may before h = destroys_none known.run.mode (has_host_end known.history) may.host_open
hosted_step known seat _ n goal may before h = before h

hosted : (run : Fixed) (history : List Event) (n : ℕ) (goal : Goal) → IsOrderly run history
    → goal_at (known_of run history) n ≡ Some goal → is_destroy run.mode ≡ false
unfolding known_of
hosted run [] n goal orderly h = absurd (let e : None ≡ Some goal = h in cc)
hosted run (event ∷ past) n goal orderly h =
    ap (λ (fixed : Fixed). is_destroy fixed.mode) (sym (run_of run past))
    ∙ hosted_step (known_of run past) event.seat event.what n goal orderly.1
    (λ there. ap (λ (fixed : Fixed). is_destroy fixed.mode) (run_of run past) ∙ hosted run past n goal orderly.0 there) h

-- ---- the law

-- what holds where nothing is out, due or over the limit, whatever the mode
pub still : (run : Fixed) (history : List Event)
    → HasNames run → 0 < run.parallel → IsOrderly run history
    → has_problem (known_of run history) ≡ false → IsQuiet (known_of run history) → IsStill run history
still run history names some orderly calm quiet = record {
  decided = all-decided run history orderly;
  replied = λ about plain begun. reply-came run history orderly calm quiet.closed about begun;
  goal_done = λ about number on begun. goal-recorded run history orderly calm quiet.closed about number on begun;
  served = λ about wanted from wants listed. lanes-serve run history orderly calm quiet names some about wanted from wants listed;
  config_served = λ n wants low. config-serves (known_of run history) quiet calm n wants low;
  no_keep = λ n ready low. no-keep (known_of run history) quiet calm n ready low;
  unrefused = λ n one decided. refused-trouble run history n one calm decided;
  ready_references = λ n goal before stands. references-ready run history n goal names orderly before stands;
  named = λ n goal stands provided. provided-named run history n goal names orderly stands provided;
}

pub quiet-is-done : (run : Fixed) (history : List Event)
    → HasNames run → is_preview run.mode ≡ false → is_refresh run.mode ≡ false
    → 0 < run.parallel → IsSound (rows_of run) → IsOrderly run history
    → host_ended (known_of run history) ≡ true → has_problem (known_of run history) ≡ false → IsQuiet (known_of run history)
    → IsAllDone (known_of run history)
quiet-is-done run history names real other some sound orderly ended calm quiet =
    everything_done run history (still run history names some orderly calm quiet) real other
    (λ row begun. row-removed run history orderly calm quiet.closed row begun)
    (λ n begun low. provider-configured run history orderly calm quiet real n begun low)
    (λ row ready low. no-drop (known_of run history) quiet calm row ready
    (subst (λ (fixed : Fixed). row < length (rows_of fixed)) (sym (run_of run history)) low))
    (λ n one row entry decided first takes at left. lacking-trouble run history n row one entry real
    (sound-apart (rows_of run) sound) orderly calm decided first takes at left)
    (λ n goal one stands decided before gone. urn-ready run history n goal one orderly (sound-apart (rows_of run) sound) stands decided before gone)
    (λ row entry here names. provider_there (rows_of run) row entry sound here names)
    (λ n goal stands. hosted run history n goal orderly stands)
    ended
    (λ over row entry doomed at. end-provided run history orderly real (sound-apart (rows_of run) sound) calm over row entry doomed at)
    (λ over later earlier left refers doomed. end-held run history orderly calm over later earlier left refers doomed)
