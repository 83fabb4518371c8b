-- The form of rows, goals, replies and results.
use Rattle.std.proofs.Common.{◌≡◌, ℕ, suc, Bool, true, false, not, ◌&&◌, ◌||◌, if◌then◌else◌, unwrap_or, List, [], ◌∷◌, ◌++◌, map, Option, Some, None, Ok, Err, refl, ◌∙◌, ap, subst, option_map}
use Rattle.std.specs.List.{fold, list_any}
use Rattle.std.specs.Option.{option_or}
use Rattle.pl_lemmas.proofs.Truth.{and_left, and_right}
use Rattle.pl_lemmas.proofs.Options.{neither, mapped_none}
use Rattle.uuid.specs.Text.{by_index}
use Rattle.pl_value.specs.Keys.{are_rising, keys_of}
use Rattle.pl_value.specs.Secrets.{marked}
use Rattle.pl_urn.specs.Grammar.{child_fault, is_bad_type}
use Rattle.pl_urn.specs.declared.fault.UrnFault.{UrnFault}
use Rattle.pl_urn.specs.declared.fault.UrnFault.TheVariants.{BadType}
use Rattle.pl_options.specs.GoalOf.{bad_part, bad_reference, bad_urn, given, goal_of, option_fault, plain_goal_of, unless_fault}
use Rattle.pl_options.specs.Names.{id_text}
use Rattle.pl_lemmas.specs.Words.{has_none}
use Rattle.pl_state.specs.Formed.{are_shallow, is_formed_row, is_none_or_filled}
use Rattle.pl_state.specs.References.{has_urn}
use Rattle.pl_state.specs.Kinds.{is_component, is_provider_goal}
use Rattle.pl_state.specs.declared.entry.Entry.{Entry}
use Rattle.pl_state.specs.declared.fault.OptionFault.{OptionFault}
use Rattle.pl_state.specs.declared.fault.OptionFault.TheVariants.{BadUrn, BadReference}
use Rattle.pl_state.specs.declared.goal.Goal.{Goal}
use Rattle.pl_state.specs.declared.goal.Registration.{Registration}
use Rattle.pl_events.specs.Replies.{are_shallow_if_there, is_formed_reply}
use Rattle.pl_events.specs.Requests.{is_formed_registration, reads_custom}
use Rattle.pl_events.specs.declared.reply.Reply.{Reply}
use Rattle.pl_events.specs.declared.reply.Reply.TheVariants as reply
use Rattle.pl_decide.specs.declared.decision.Decision.{Decision}
use Rattle.pl_decide.specs.declared.decision.Decision.TheVariants as decision
use Rattle.pl_refresh.specs.Refreshed.{pruned_row, refreshed, replaced_row, urns_left, Left}
use Rattle.pl_model.specs.declared.decided.Decided.{Decided}
use Rattle.pl_model.specs.Run.{Pairs}
use Rattle.pl_model.specs.Claims.{id_of_row, is_usable, kept_provider_id, usable_id}
use Rattle.pl_model.specs.Entries.{Result, Turning, goal_entry, is_keep, is_update, kept_changed, kept_id, kept_new, kept_planned, kept_same, new_id, outputs_of_row, planned_by, result_of_keep, result_of_reply, result_with, turned, turned_entry, with_outputs}
use Rattle.pl_model.specs.Known.{Known}
use Rattle.pl_model_stays.proofs.Operations.Once.{both as and_made}
use Rattle.pl_model_ends.proofs.Shallow.{marked-shallow, planned-shallow}

-- ---- rows

-- the parts of a row's form
pub record Form (row : Entry) : Type 0 where
  pub kind : not (has_none row.kind) ≡ true
  pub id : is_none_or_filled row.id ≡ true
  pub keys : are_rising (keys_of row.property_dependencies) ≡ true
  pub inputs : are_shallow row.inputs ≡ true
  pub outputs : are_shallow row.outputs ≡ true

pub form-of : (row : Entry) → is_formed_row row ≡ true → Form row
form-of row h =
    let four = and_left _ (are_shallow row.outputs) h in
    let three = and_left _ (are_shallow row.inputs) four in
    let two = and_left _ (are_rising (keys_of row.property_dependencies)) three in
    record {
      kind = and_left (not (has_none row.kind)) (is_none_or_filled row.id) two;
      id = and_right (not (has_none row.kind)) (is_none_or_filled row.id) two;
      keys = and_right (not (has_none row.kind) && is_none_or_filled row.id) (are_rising (keys_of row.property_dependencies)) three;
      inputs = and_right (not (has_none row.kind) && is_none_or_filled row.id && are_rising (keys_of row.property_dependencies)) (are_shallow row.inputs) four;
      outputs = and_right (not (has_none row.kind) && is_none_or_filled row.id && are_rising (keys_of row.property_dependencies) && are_shallow row.inputs)
          (are_shallow row.outputs) h;
    }

pub formed-by : (row : Entry) → Form row → is_formed_row row ≡ true
formed-by row form =
    and_made (not (has_none row.kind) && is_none_or_filled row.id && are_rising (keys_of row.property_dependencies) && are_shallow row.inputs)
    (are_shallow row.outputs)
    (and_made (not (has_none row.kind) && is_none_or_filled row.id && are_rising (keys_of row.property_dependencies)) (are_shallow row.inputs)
    (and_made (not (has_none row.kind) && is_none_or_filled row.id) (are_rising (keys_of row.property_dependencies))
    (and_made (not (has_none row.kind)) (is_none_or_filled row.id) form.kind form.id) form.keys) form.inputs) form.outputs

-- the form of a row that may be missing
abbrev pub IfFormed : Option Entry → Type 0
IfFormed None = Unit
IfFormed (Some row) = Form row

-- ---- goals

pub record GoalForm (goal : Goal) : Type 0 where
  pub kind : not (has_none goal.kind) ≡ true
  pub keys : are_rising (keys_of goal.property_dependencies) ≡ true
  pub inputs : are_shallow goal.inputs ≡ true
  pub import_id : is_none_or_filled goal.import_id ≡ true
  pub read_id : is_none_or_filled goal.read_id ≡ true

-- a text that counts as given is not empty
given_filled : (o : Option (List ℕ)) → is_none_or_filled (given o) ≡ true
given_filled None = refl
given_filled (Some []) = refl
given_filled (Some (byte ∷ more)) = refl

part_none : (told : Registration) (o : Option UrnFault) → bad_part told o ≡ None → o ≡ None
part_none told None h = refl
part_none told (Some fault) h = absurd (never fault h)
  where
    never : (fault : UrnFault) → bad_part told (Some fault) ≡ None → ⊥
    never BadType h = let e : Some told.kind ≡ None = h in cc
    never _ h = let e : Some told.name ≡ None = h in cc

-- a type that makes a URN is not empty
kind_filled : (kind name : List ℕ) → child_fault kind name ≡ None → not (has_none kind) ≡ true
unfolding is_bad_type
kind_filled [] name h = absurd (let e : Some BadType ≡ None = h in cc)
kind_filled (byte ∷ more) name h = refl

-- a registration that is not at fault has a type
told_kind : (told : Registration) → option_fault told ≡ None → not (has_none told.kind) ≡ true
unfolding option_fault
told_kind told h =
    let rest = neither (option_map BadReference (bad_reference told)) _ h in
    let urn = neither (option_map BadUrn (bad_urn told)) _ rest.1 in
    kind_filled told.kind told.name (part_none told (child_fault told.kind told.name) (mapped_none BadUrn (bad_urn told) urn.0))

-- the goal of a registration has the form of one
plain_form : (stack project : List ℕ) (told : Registration) → is_formed_registration told ≡ true → option_fault told ≡ None
    → GoalForm (plain_goal_of stack project told)
unfolding plain_goal_of
plain_form stack project told h none = record {
  kind = told_kind told none;
  keys = and_right (reads_custom told.custom told.read_id) (are_rising (keys_of told.property_dependencies)) (and_left _ (are_shallow told.inputs) h);
  inputs = and_right (reads_custom told.custom told.read_id && are_rising (keys_of told.property_dependencies)) (are_shallow told.inputs) h;
  import_id = given_filled told.import_id;
  read_id = given_filled told.read_id;
}

pub told-form : (stack project : List ℕ) (told : Registration) (goal : Goal) → is_formed_registration told ≡ true
    → goal_of stack project told ≡ Ok goal → GoalForm goal
told-form stack project told goal h = by (option_fault told) refl
  where
    by : (o : Option OptionFault) → option_fault told ≡ o → unless_fault o (plain_goal_of stack project told) ≡ Ok goal → GoalForm goal
    by None none made =
        let same : plain_goal_of stack project told ≡ goal = cc in
        subst (λ (one : Goal). GoalForm one) same (plain_form stack project told h none)
    by (Some fault) none made = absurd (let e : Err fault ≡ Ok goal = made in cc)

-- ---- ids

last_there : (xs : List ℕ) (x : ℕ) → not (has_none (xs ++ x ∷ [])) ≡ true
last_there [] x = refl
last_there (y ∷ ys) x = refl

index_filled : (n : ℕ) (f : ℕ → ℕ) → not (has_none (by_index (suc n) f)) ≡ true
unfolding by_index
index_filled n f = last_there (by_index n f) (f n)

-- an id that the engine makes is not empty
id_filled : (drawn : ℕ) → is_none_or_filled (Some (id_text drawn)) ≡ true
unfolding id_text
id_filled drawn = index_filled 35 _

drawn_filled : (fresh : Option ℕ) → is_none_or_filled (option_map id_text fresh) ≡ true
drawn_filled None = refl
drawn_filled (Some drawn) = id_filled drawn

usable_filled : (o : Option (List ℕ)) → is_none_or_filled o ≡ true → is_none_or_filled (usable_id o) ≡ true
usable_filled None h = refl
usable_filled (Some id) h = by (is_usable id)
  where
    by : (b : Bool) → is_none_or_filled (if b then Some id else None) ≡ true
    by true = h
    by false = refl

or_filled : (one other : Option (List ℕ)) → is_none_or_filled one ≡ true → is_none_or_filled other ≡ true
    → is_none_or_filled (option_or one other) ≡ true
or_filled None other h k = k
or_filled (Some id) other h k = h

row_id_filled : (row : Option Entry) → IfFormed row → is_none_or_filled (id_of_row row) ≡ true
row_id_filled None form = refl
row_id_filled (Some row) form = form.id

row_outputs : (row : Option Entry) → IfFormed row → are_shallow (outputs_of_row row) ≡ true
row_outputs None form = refl
row_outputs (Some row) form = form.outputs

provider_id_filled : (claim : Option Entry) (fresh : Option ℕ) → IfFormed claim → is_none_or_filled (kept_provider_id claim fresh) ≡ true
provider_id_filled claim fresh form =
    or_filled (usable_id (id_of_row claim)) (option_map id_text fresh)
    (usable_filled (id_of_row claim) (row_id_filled claim form)) (drawn_filled fresh)

-- ---- results

pub record ResultForm (result : Result) : Type 0 where
  pub id : is_none_or_filled result.id ≡ true
  pub outputs : are_shallow result.outputs ≡ true

pub with_form : (id : Option (List ℕ)) (outputs : Pairs) (reasons : List (List ℕ)) → is_none_or_filled id ≡ true → are_shallow outputs ≡ true
    → ResultForm (result_with id outputs reasons)
with_form id outputs reasons h k = record { id = h; outputs = k }

abbrev pub IfResult : Option Result → Type 0
IfResult None = Unit
IfResult (Some result) = ResultForm result

-- what a reply gives
pub reply-form : (claim : Option Entry) (said : Reply) → IfFormed claim → is_formed_reply said ≡ true → IfResult (result_of_reply claim said)
reply-form claim (reply.Made id outputs) form h =
    with_form (Some id) outputs [] (and_left (not (has_none id)) (are_shallow outputs) h) (and_right (not (has_none id)) (are_shallow outputs) h)
reply-form claim (reply.MadePartly id outputs reasons) form h =
    let both = and_left (not (has_none id) && are_shallow outputs) (not (has_none reasons)) h in
    with_form (Some id) outputs reasons (and_left (not (has_none id)) (are_shallow outputs) both) (and_right (not (has_none id)) (are_shallow outputs) both)
reply-form claim (reply.Changed outputs) form h = with_form (id_of_row claim) outputs [] (row_id_filled claim form) h
reply-form claim (reply.ChangedPartly outputs reasons) form h =
    with_form (id_of_row claim) outputs reasons (row_id_filled claim form) (and_left (are_shallow outputs) (not (has_none reasons)) h)
reply-form claim (reply.Found id inputs outputs) form h =
    with_form (Some id) outputs [] (and_left (not (has_none id)) (are_shallow_if_there inputs) (and_left _ (are_shallow outputs) h))
    (and_right (not (has_none id) && are_shallow_if_there inputs) (are_shallow outputs) h)
reply-form claim _ form h = tt

module _ (goal : Goal) (goal_form : GoalForm goal) (claim : Option Entry) (form : IfFormed claim) (one : Decided) (low : are_shallow one.checked ≡ true)
    (fresh : Option ℕ) where
  kept_id_filled : is_none_or_filled (kept_id goal claim fresh) ≡ true
  kept_id_filled = by (is_provider_goal goal)
    where
      by : (b : Bool) → is_none_or_filled (if b then kept_provider_id claim fresh else id_of_row claim) ≡ true
      by true = provider_id_filled claim fresh form
      by false = row_id_filled claim form

  new_id_filled : is_none_or_filled (new_id goal claim fresh) ≡ true
  new_id_filled = by (is_provider_goal goal)
    where
      by : (b : Bool) → is_none_or_filled (if b then kept_provider_id claim fresh else None) ≡ true
      by true = provider_id_filled claim fresh form
      by false = refl

  same_form : ResultForm (kept_same goal claim fresh)
  same_form = by claim form kept_id_filled
    where
      by : (o : Option Entry) → IfFormed o → is_none_or_filled (kept_id goal o fresh) ≡ true → ResultForm (kept_same goal o fresh)
      by None its filled = with_form None [] [] refl refl
      by (Some row) its filled = record { id = filled; outputs = its.outputs }

  planned_form : ResultForm (kept_planned goal claim one)
  planned_form = by one.decision
    where
      by : (choice : Decision) → ResultForm (planned_by goal claim one.checked choice)
      by decision.Update =
          with_form (id_of_row claim) _ [] (row_id_filled claim form)
          (planned-shallow (outputs_of_row claim) one.checked (row_outputs claim form) low)
      by decision.Import = with_form goal.import_id one.checked [] goal_form.import_id low
      by decision.ReadOnly = with_form goal.read_id one.checked [] goal_form.read_id low
      by _ = with_form None one.checked [] refl low

  -- what a keep gives
  pub keep-form : ResultForm (result_of_keep goal claim one fresh)
  keep-form = by (is_keep one.decision) (is_component goal || is_provider_goal goal) (is_update one.decision)
    where
      by : (keep own update : Bool) → ResultForm (if keep then kept_same goal claim fresh
          else (if not own then kept_planned goal claim one
          else (if update then kept_changed goal claim fresh else kept_new goal claim fresh)))
      by true own update = same_form
      by false false update = planned_form
      by false true true = with_form (kept_id goal claim fresh) (outputs_of_row claim) [] kept_id_filled (row_outputs claim form)
      by false true false = with_form (new_id goal claim fresh) [] [] new_id_filled refl

-- ---- entries

-- the entry of a goal has the form of a row
pub entry-form : (known : Known) (goal : Goal) (one : Decided) (result : Result) → GoalForm goal → are_shallow one.checked ≡ true
    → ResultForm result → Form (goal_entry known goal one result)
entry-form known goal one result form low made = record {
  kind = form.kind;
  id = made.id;
  keys = form.keys;
  inputs = low;
  outputs = marked-shallow goal.additional_secret_outputs result.outputs made.outputs;
}

pub outputs-form : (row : Entry) (outputs : Pairs) → Form row → are_shallow outputs ≡ true → Form (record row { outputs = outputs })
outputs-form row outputs form low = record {
  kind = form.kind;
  id = form.id;
  keys = form.keys;
  inputs = form.inputs;
  outputs = low;
}

pub told-outputs-form : (told : Option Pairs) (row : Entry) → Form row → ((outputs : Pairs) → told ≡ Some outputs → are_shallow outputs ≡ true)
    → Form (with_outputs told row)
told-outputs-form None row form low = form
told-outputs-form (Some outputs) row form low =
    outputs-form row (marked row.additional_secret_outputs outputs) form
    (marked-shallow row.additional_secret_outputs outputs (low outputs refl))

-- ---- turned rows

turned_keys : (f : List (List ℕ) → List (List ℕ)) (pairs : List (List ℕ × List (List ℕ)))
    → keys_of (map (λ (pair : List ℕ × List (List ℕ)). (pair.0, f pair.1)) pairs) ≡ keys_of pairs
turned_keys f [] = refl
turned_keys f (pair ∷ pairs) = ap (λ (keys : List (List ℕ)). pair.0 ∷ keys) (turned_keys f pairs)

turned_form : (row : Entry) (turning : Turning) → Form row → Form (turned_entry row turning)
turned_form row turning form = record {
  kind = form.kind;
  id = form.id;
  keys = ap are_rising (turned_keys (λ (urns : List (List ℕ)). map (turned turning) urns) row.property_dependencies) ∙ form.keys;
  inputs = form.inputs;
  outputs = form.outputs;
}

pub turns-form : (turnings : List Turning) (row : Entry) → Form row → Form (fold turned_entry row turnings)
turns-form [] row form = form
turns-form (turning ∷ turnings) row form = turns-form turnings (turned_entry row turning) (turned_form row turning form)

-- ---- a run that reads everything anew

inputs_there : (found : Option Pairs) (inputs : Pairs) → are_shallow_if_there found ≡ true → are_shallow inputs ≡ true
    → are_shallow (unwrap_or found inputs) ≡ true
inputs_there None inputs h k = k
inputs_there (Some found) inputs h k = h

-- what was read has the form of a row
pub refreshed-form : (row : Entry) (id : List ℕ) (inputs : Option Pairs) (outputs : Pairs) → Form row
    → is_formed_reply (reply.Found id inputs outputs) ≡ true → Form (refreshed row id inputs outputs)
refreshed-form row id inputs outputs form h =
    let two = and_left _ (are_shallow outputs) h in
    record {
      kind = form.kind;
      id = and_left (not (has_none id)) (are_shallow_if_there inputs) two;
      keys = form.keys;
      inputs = inputs_there inputs row.inputs (and_right (not (has_none id)) (are_shallow_if_there inputs) two) form.inputs;
      outputs = marked-shallow row.additional_secret_outputs outputs
          (and_right (not (has_none id) && are_shallow_if_there inputs) (are_shallow outputs) h);
    }

pub pruned-form : (base earlier : List Entry) (left : Left) → Form left.row → Form (pruned_row base earlier left)
pruned-form base earlier left form = record {
  kind = form.kind;
  id = form.id;
  keys = ap are_rising (turned_keys (urns_left earlier) left.row.property_dependencies) ∙ form.keys;
  inputs = form.inputs;
  outputs = form.outputs;
}

pub replaced-form : (imported : List Entry) (row : Entry) → Form row → Form (replaced_row imported row)
replaced-form imported row form = by (list_any (has_urn row.urn) imported)
  where
    by : (b : Bool) → Form (if b then record row { doomed = true } else row)
    by true = record {
      kind = form.kind;
      id = form.id;
      keys = form.keys;
      inputs = form.inputs;
      outputs = form.outputs;
    }
    by false = form
