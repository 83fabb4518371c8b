-- The first fault of a registration, by the parts that are looked at in order.
use Rattle.std.proofs.Common.{◌≡◌, ℕ, List, Option, Some, None, Ok, option_map, ap, sym, ◌∙◌, refl}
use Rattle.std.specs.Option.{option_or}
use Rattle.pl_path.specs.Grammar.{is_path}
use Rattle.pl_state.specs.declared.fault.OptionFault.{OptionFault}
use Rattle.pl_state.specs.declared.fault.OptionFault.TheVariants.{BadUrn, BadPath, BadVersion, BadReference}
use Rattle.pl_state.specs.declared.goal.Goal.{Goal}
use Rattle.pl_state.specs.declared.goal.Registration.{Registration}
use Rattle.pl_options.specs.GoalOf.{bad_path, bad_reference, bad_urn, bad_version, goal_of, option_fault, plain_goal_of, provider_of_provider, unless_fault}
use Rattle.pl_options.specs.Refused.{HasPaths, IsRefusalOf, IsRefusedFor}
use Rattle.pl_options.specs.declared.fault.GoalFault.{GoalFault}
use Rattle.pl_options.specs.declared.fault.GoalFault.TheVariants as goal
use Rattle.pl_options.proofs.FirstBad.{all_pass, found_first, refused_for}

abbrev first_of : (reference urn path version : Option (List ℕ)) → Option OptionFault → Option OptionFault
first_of reference urn path version provider =
    option_or (option_map BadReference reference)
    (option_or (option_map BadUrn urn)
    (option_or (option_map BadPath path)
    (option_or (option_map BadVersion version)
    provider)))

at_first : (reference urn path version : Option (List ℕ)) (provider : Option OptionFault) (fault : GoalFault) → IsRefusedFor (option_map BadReference reference) fault → IsRefusedFor (first_of reference urn path version provider) fault
at_first reference urn path version provider fault h =
    refused_for (option_map BadReference reference) _ fault (λ one found. found_first _ _ one found) h

at_second : (reference urn path version : Option (List ℕ)) (provider : Option OptionFault) (fault : GoalFault) → reference ≡ None → IsRefusedFor (option_map BadUrn urn) fault → IsRefusedFor (first_of reference urn path version provider) fault
at_second None urn path version provider fault e h =
    refused_for (option_map BadUrn urn) _ fault (λ one found. found_first _ _ one found) h
at_second (Some text) urn path version provider fault e h = absurd cc

at_third : (reference urn path version : Option (List ℕ)) (provider : Option OptionFault) (fault : GoalFault) → reference ≡ None → urn ≡ None → IsRefusedFor (option_map BadPath path) fault → IsRefusedFor (first_of reference urn path version provider) fault
at_third None None path version provider fault e f h =
    refused_for (option_map BadPath path) _ fault (λ one found. found_first _ _ one found) h
at_third None (Some text) path version provider fault e f h = absurd cc
at_third (Some text) urn path version provider fault e f h = absurd cc

at_fourth : (reference urn path version : Option (List ℕ)) (provider : Option OptionFault) (fault : GoalFault) → reference ≡ None → urn ≡ None → path ≡ None → IsRefusedFor (option_map BadVersion version) fault → IsRefusedFor (first_of reference urn path version provider) fault
at_fourth None None None version provider fault e f g h =
    refused_for (option_map BadVersion version) _ fault (λ one found. found_first _ _ one found) h
at_fourth None None (Some text) version provider fault e f g h = absurd cc
at_fourth None (Some text) path version provider fault e f g h = absurd cc
at_fourth (Some text) urn path version provider fault e f g h = absurd cc

first_is : (reference urn path version : Option (List ℕ)) (provider : Option OptionFault) → reference ≡ None → urn ≡ None → path ≡ None → version ≡ None → first_of reference urn path version provider ≡ provider
first_is None None None None provider e f g h = refl
first_is None None None (Some text) provider e f g h = absurd cc
first_is None None (Some text) version provider e f g h = absurd cc
first_is None (Some text) path version provider e f g h = absurd cc
first_is (Some text) urn path version provider e f g h = absurd cc

refusal : (found : Option OptionFault) (made : Goal) (fault : GoalFault) → IsRefusedFor found fault → IsRefusalOf (unless_fault found made) fault
refusal found made (goal.Option one) h = ap (λ (which : Option OptionFault). unless_fault which made) h
refusal found made goal.OutOfMemory h = tt

pub refused_reference : (stack project : List ℕ) (told : Registration) (fault : GoalFault) → IsRefusedFor (option_map BadReference (bad_reference told)) fault → IsRefusalOf (goal_of stack project told) fault
unfolding option_fault
refused_reference stack project told fault h =
    refusal (option_fault told) (plain_goal_of stack project told) fault
    (at_first (bad_reference told) (bad_urn told) (bad_path told) (bad_version told) (provider_of_provider told) fault h)

pub refused_urn : (stack project : List ℕ) (told : Registration) (fault : GoalFault) → bad_reference told ≡ None → IsRefusedFor (option_map BadUrn (bad_urn told)) fault → IsRefusalOf (goal_of stack project told) fault
unfolding option_fault
refused_urn stack project told fault reference h =
    refusal (option_fault told) (plain_goal_of stack project told) fault
    (at_second (bad_reference told) (bad_urn told) (bad_path told) (bad_version told) (provider_of_provider told) fault reference h)

pub refused_path : (stack project : List ℕ) (told : Registration) (fault : GoalFault) → bad_reference told ≡ None → bad_urn told ≡ None → IsRefusedFor (option_map BadPath (bad_path told)) fault → IsRefusalOf (goal_of stack project told) fault
unfolding option_fault
refused_path stack project told fault reference urn h =
    refusal (option_fault told) (plain_goal_of stack project told) fault
    (at_third (bad_reference told) (bad_urn told) (bad_path told) (bad_version told) (provider_of_provider told) fault reference urn h)

pub refused_version : (stack project : List ℕ) (told : Registration) (fault : GoalFault) → bad_reference told ≡ None → bad_urn told ≡ None → bad_path told ≡ None → IsRefusedFor (option_map BadVersion (bad_version told)) fault → IsRefusalOf (goal_of stack project told) fault
unfolding option_fault
refused_version stack project told fault reference urn path h =
    refusal (option_fault told) (plain_goal_of stack project told) fault
    (at_fourth (bad_reference told) (bad_urn told) (bad_path told) (bad_version told) (provider_of_provider told) fault reference urn path h)

-- the parts of a registration that are looked at before its provider is
pub record IsRead (told : Registration) : Type 0 where
  pub reference : bad_reference told ≡ None
  pub urn : bad_urn told ≡ None
  pub path : bad_path told ≡ None
  pub version : bad_version told ≡ None

last_fault : (told : Registration) → IsRead told → option_fault told ≡ provider_of_provider told
unfolding option_fault
last_fault told read =
    first_is (bad_reference told) (bad_urn told) (bad_path told) (bad_version told) (provider_of_provider told) read.reference read.urn read.path read.version

for_last : (last found : Option OptionFault) (fault : GoalFault) → found ≡ last → IsRefusedFor last fault → IsRefusedFor found fault
for_last last found fault same h = refused_for last found fault (λ one e. same ∙ e) h

pub refused_provider : (stack project : List ℕ) (told : Registration) (fault : GoalFault) → IsRead told → IsRefusedFor (provider_of_provider told) fault → IsRefusalOf (goal_of stack project told) fault
refused_provider stack project told fault read h =
    refusal (option_fault told) (plain_goal_of stack project told) fault
    (for_last (provider_of_provider told) (option_fault told) fault (last_fault told read) h)

unless_none : (found : Option OptionFault) (goal made : Goal) → found ≡ None → made ≡ goal → unless_fault found goal ≡ Ok made
unless_none None goal made e same = ap Ok (sym same)
unless_none (Some fault) goal made e same = absurd cc

pub goal_is_made : (stack project : List ℕ) (told : Registration) (made : Goal) → IsRead told → provider_of_provider told ≡ None → made ≡ plain_goal_of stack project told → goal_of stack project told ≡ Ok made
goal_is_made stack project told made read provider same =
    unless_none (option_fault told) (plain_goal_of stack project told) made (last_fault told read ∙ provider) same

pub goal_has_paths : (stack project : List ℕ) (told : Registration) (made : Goal) → bad_path told ≡ None → made ≡ plain_goal_of stack project told → HasPaths made
unfolding plain_goal_of
goal_has_paths stack project told made none same =
    let paths : made.ignore_changes ≡ told.ignore_changes = ap (λ (one : Goal). one.ignore_changes) same in
    rw paths (all_pass is_path told.ignore_changes none)
