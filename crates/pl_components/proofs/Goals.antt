-- The goals of component runs, and what is decided of them.
use Rattle.std.proofs.Common.{◌≡◌, ℕ, ◌==◌, Bool, true, false, not, ◌&&◌, ◌||◌, List, [], ◌∷◌, length, map, Option, Some, None, Ok, IfSome, is_none, refl, sym, ◌∙◌, ap, subst}
use Rattle.std.proofs.lemmas.List.{length-map}
use Rattle.std.proofs.lemmas.Slice.Eq.{bytes_eq-Decides}
use Rattle.std.specs.Str.{bytes_eq}
use Rattle.std.specs.List.{starts_with}
use Rattle.pl_urn.specs.Grammar.{IsScope, IsUrn, child_fault, child_text, is_provider_type, provider_prefix, urn_fault}
use Rattle.pl_urn.proofs.Children.{IsUrn-child, own_type_of-child}
use Rattle.pl_options.specs.GoalOf.{goal_of, option_fault, plain_goal_of}
use Rattle.pl_lemmas.specs.Words.{has_none}
use Rattle.pl_state.specs.Component.{has_no_flags, has_no_lists, has_no_names, is_plain, plain_goal, plain_registration}
use Rattle.pl_state.specs.Kinds.{is_of_provider}
use Rattle.pl_state.specs.declared.goal.Goal.{Goal}
use Rattle.pl_state.specs.declared.goal.Registration.{Registration}
use Rattle.pl_decide.specs.declared.decision.Decision.TheVariants.{Create}
use Rattle.pl_model.specs.declared.decided.Decided.{Decided}
use Rattle.pl_model.specs.Decisions.{decided_after, decided_of}
use Rattle.pl_components.specs.Run.{Fixed}
use Rattle.pl_components.specs.Requests.{goal_for, has_goal, has_parent, is_acceptable}
use Rattle.pl_components.specs.Whole.{whole}
use Rattle.pl_components.proofs.Lists.{Each, and_false, and_left, and_right, not_true, same_number}

-- a goal that a component has: nothing but a type and a parent, and its URN is no provider's
pub record IsFit (goal : Goal) : Type 0 where
  pub plain : goal ≡ plain_goal goal.urn goal.kind goal.parent
  pub urn : IsUrn goal.urn
  pub other : is_of_provider goal.urn ≡ false

-- ---- decisions

abbrev pub plain_decided : Decided
plain_decided = record { claim = None; inputs = []; checked = []; decision = Create }

abbrev pub decided_for : Goal → Decided
decided_for goal = plain_decided

decided_more : (run : Fixed) (parallel : ℕ) (urn kind : List ℕ) (parent : Option (List ℕ)) (earlier : List Goal)
    → is_of_provider urn ≡ false
    → decided_after (whole run parallel) [] (plain_goal urn kind parent) earlier (map decided_for earlier) ≡ plain_decided ∷ map decided_for earlier
decided_more run parallel urn kind parent earlier other =
    rw (length-map earlier decided_for, same_number (length earlier), other) refl

pub decided_goals : (run : Fixed) (parallel : ℕ) (goals : List Goal) → Each IsFit goals → decided_of (whole run parallel) [] goals ≡ map decided_for goals
decided_goals run parallel [] h = refl
decided_goals run parallel (goal ∷ earlier) h =
    ap (λ (before : List Decided). decided_after (whole run parallel) [] goal earlier before) (decided_goals run parallel earlier h.1)
    ∙ subst (λ (one : Goal). decided_after (whole run parallel) [] one earlier (map decided_for earlier) ≡ plain_decided ∷ map decided_for earlier)
    (sym h.0.plain) (decided_more run parallel goal.urn goal.kind goal.parent earlier h.0.other)

-- ---- registrations

none_from_test : {X : Type 0} (o : Option X) → is_none o ≡ true → o ≡ None
none_from_test None h = refl
none_from_test (Some x) h = absurd (let e : false ≡ true = h in cc)

nil_from_test : {X : Type 0} (xs : List X) → has_none xs ≡ true → xs ≡ []
nil_from_test [] h = refl
nil_from_test (x ∷ xs) h = absurd (let e : false ≡ true = h in cc)

-- a plain registration has a type, a name and a parent alone
pub plain_is : (told : Registration) → is_plain told ≡ true → told ≡ plain_registration told.kind told.name told.parent
plain_is told h =
    let flags : has_no_flags told ≡ true = and_left _ (has_no_names told) (and_left _ (has_no_lists told) h) in
    let names : has_no_names told ≡ true = and_right (has_no_flags told) _ (and_left _ (has_no_lists told) h) in
    let lists : has_no_lists told ≡ true = and_right (has_no_flags told && has_no_names told) _ h in
    let custom : told.custom ≡ false = not_true _ (and_left _ (not told.protect) (and_left _ (not told.retain_on_delete) (and_left _ (is_none told.delete_before_replace) flags))) in
    let protect : told.protect ≡ false = not_true _ (and_right (not told.custom) _ (and_left _ (not told.retain_on_delete) (and_left _ (is_none told.delete_before_replace) flags))) in
    let retain : told.retain_on_delete ≡ false = not_true _ (and_right (not told.custom && not told.protect) _ (and_left _ (is_none told.delete_before_replace) flags)) in
    let first : told.delete_before_replace ≡ None = none_from_test _ (and_right (not told.custom && not told.protect && not told.retain_on_delete) _ flags) in
    let provider : told.provider ≡ None = none_from_test _ (and_left _ (is_none told.deleted_with) (and_left _ (is_none told.import_id) (and_left _ (is_none told.version) (and_left _ (is_none told.read_id) names)))) in
    let deleter : told.deleted_with ≡ None = none_from_test _ (and_right (is_none told.provider) _ (and_left _ (is_none told.import_id) (and_left _ (is_none told.version) (and_left _ (is_none told.read_id) names)))) in
    let import : told.import_id ≡ None = none_from_test _ (and_right (is_none told.provider && is_none told.deleted_with) _ (and_left _ (is_none told.version) (and_left _ (is_none told.read_id) names))) in
    let version : told.version ≡ None = none_from_test _ (and_right (is_none told.provider && is_none told.deleted_with && is_none told.import_id) _ (and_left _ (is_none told.read_id) names)) in
    let read : told.read_id ≡ None = none_from_test _ (and_right (is_none told.provider && is_none told.deleted_with && is_none told.import_id && is_none told.version) _ names) in
    let five = and_left (has_none told.inputs && has_none told.dependencies && has_none told.property_dependencies && has_none told.aliases && has_none told.ignore_changes) (has_none told.additional_secret_outputs) lists in
    let four = and_left (has_none told.inputs && has_none told.dependencies && has_none told.property_dependencies && has_none told.aliases) (has_none told.ignore_changes) five in
    let three = and_left (has_none told.inputs && has_none told.dependencies && has_none told.property_dependencies) (has_none told.aliases) four in
    let two = and_left (has_none told.inputs && has_none told.dependencies) (has_none told.property_dependencies) three in
    let inputs : told.inputs ≡ [] = nil_from_test _ (and_left (has_none told.inputs) (has_none told.dependencies) two) in
    let dependencies : told.dependencies ≡ [] = nil_from_test _ (and_right (has_none told.inputs) _ two) in
    let properties : told.property_dependencies ≡ [] = nil_from_test _ (and_right (has_none told.inputs && has_none told.dependencies) _ three) in
    let aliases : told.aliases ≡ [] = nil_from_test _ (and_right (has_none told.inputs && has_none told.dependencies && has_none told.property_dependencies) _ four) in
    let ignored : told.ignore_changes ≡ [] = nil_from_test _ (and_right (has_none told.inputs && has_none told.dependencies && has_none told.property_dependencies && has_none told.aliases) _ five) in
    let secret : told.additional_secret_outputs ≡ [] = nil_from_test _ (and_right (has_none told.inputs && has_none told.dependencies && has_none told.property_dependencies && has_none told.aliases && has_none told.ignore_changes) _ lists) in
    λ i. record {
      kind = told.kind;
      name = told.name;
      custom = custom i;
      inputs = inputs i;
      parent = told.parent;
      provider = provider i;
      dependencies = dependencies i;
      property_dependencies = properties i;
      protect = protect i;
      aliases = aliases i;
      ignore_changes = ignored i;
      delete_before_replace = first i;
      retain_on_delete = retain i;
      deleted_with = deleter i;
      additional_secret_outputs = secret i;
      import_id = import i;
      version = version i;
      read_id = read i;
    }

-- its goal, where its parent is a URN and its type and name make one
pub goal_of-plain : (stack project kind name : List ℕ) (parent : Option (List ℕ)) → IfSome parent IsUrn → child_fault kind name ≡ None
    → goal_of stack project (plain_registration kind name parent) ≡ Ok (plain_goal (child_text parent stack project kind name) kind parent)
unfolding option_fault plain_goal_of urn_fault
goal_of-plain stack project kind name None above allowed = rw (allowed, and_false) refl
goal_of-plain stack project kind name (Some []) above allowed = absurd cc
goal_of-plain stack project kind name (Some (b ∷ bs)) above allowed = rw (above, allowed, and_false) refl

pub has_goal-urn : (goals : List Goal) (urn : List ℕ) → Each IsFit goals → has_goal goals urn ≡ true → IsUrn urn
has_goal-urn [] urn fit h = absurd (let e : false ≡ true = h in cc)
has_goal-urn (goal ∷ earlier) urn fit h = by (bytes_eq goal.urn urn) refl (has_goal-urn earlier urn fit.1) h
  where
    by : (b : Bool) → bytes_eq goal.urn urn ≡ b → (has_goal earlier urn ≡ true → IsUrn urn) → (b || has_goal earlier urn) ≡ true → IsUrn urn
    by true is rest h = subst (λ (text : List ℕ). IsUrn text) ((bytes_eq-Decides goal.urn urn).0 is) fit.0.urn
    by false is rest h = rest h

pub parent_urn : (goals : List Goal) (parent : Option (List ℕ)) → Each IsFit goals → has_parent goals parent ≡ true → IfSome parent IsUrn
parent_urn goals None fit h = tt
parent_urn goals (Some urn) fit h = has_goal-urn goals urn fit h

-- what an acceptable registration has
pub record IsAcceptable (run : Fixed) (goals : List Goal) (told : Registration) : Type 0 where
  pub plain : told ≡ plain_registration told.kind told.name told.parent
  pub allowed : child_fault told.kind told.name ≡ None
  pub parent : has_parent goals told.parent ≡ true
  pub fresh : has_goal goals (goal_for run told).urn ≡ false

pub IsAcceptable-from_test : (run : Fixed) (goals : List Goal) (told : Registration) → is_acceptable run goals told ≡ true → IsAcceptable run goals told
IsAcceptable-from_test run goals told h =
    let front = and_left (is_plain told && is_none (child_fault told.kind told.name)) (has_parent goals told.parent && not (has_goal goals (goal_for run told).urn)) h in
    let back = and_right (is_plain told && is_none (child_fault told.kind told.name)) (has_parent goals told.parent && not (has_goal goals (goal_for run told).urn)) h in
    record {
      plain = plain_is told (and_left (is_plain told) (is_none (child_fault told.kind told.name)) front);
      allowed = none_from_test (child_fault told.kind told.name) (and_right (is_plain told) (is_none (child_fault told.kind told.name)) front);
      parent = and_left (has_parent goals told.parent) (not (has_goal goals (goal_for run told).urn)) back;
      fresh = not_true (has_goal goals (goal_for run told).urn) (and_right (has_parent goals told.parent) (not (has_goal goals (goal_for run told).urn)) back);
    }

-- the goal that it makes
pub IsFit-made : (run : Fixed) (goals : List Goal) (told : Registration) → IsScope run.stack → IsScope run.project → Each IsFit goals
    → is_provider_type told.kind ≡ false → IsAcceptable run goals told → IsFit (goal_for run told)
IsFit-made run goals told stack project fit type ok =
    let above : IfSome told.parent IsUrn = parent_urn goals told.parent fit ok.parent in
    record {
      plain = refl;
      urn = IsUrn-child told.parent run.stack run.project told.kind told.name above stack project ok.allowed;
      other = ap (λ (text : List ℕ). starts_with (λ a b. a == b) text provider_prefix)
          (own_type_of-child told.parent run.stack run.project told.kind told.name above stack project ok.allowed) ∙ type;
    }

pub goal_of-acceptable : (run : Fixed) (goals : List Goal) (told : Registration) → Each IsFit goals → IsAcceptable run goals told
    → goal_of run.stack run.project told ≡ Ok (goal_for run told)
goal_of-acceptable run goals told fit ok =
    ap (λ (one : Registration). goal_of run.stack run.project one) ok.plain
    ∙ goal_of-plain run.stack run.project told.kind told.name told.parent (parent_urn goals told.parent fit ok.parent) ok.allowed
