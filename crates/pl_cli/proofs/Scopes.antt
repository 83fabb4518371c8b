-- The values of the two required options, where nothing is wrong with the words: each is a name that the place
-- of a stack or a project in a URN takes.
use Rattle.std.proofs.Common.{◌≡◌, ◌==◌, ◌∙◌, sym, ap, subst, refl, arith, ℕ, ◌+◌, ◌-◌, ◌<◌, suc, zero, Bool, true, false, not, cond, List, [], ◌∷◌, Option, Some, None, length, take, codes, position, find, option_map, unwrap_or, zero-add, add-zero, if◌then◌else◌}
use Rattle.std.specs.List.{range_with_len}
use Rattle.std.specs.Option.{option_or}
use Rattle.std.specs.Str.{bytes_eq}
use Rattle.std.proofs.lemmas.Bool.{and_parts, eq-eqb, false≢true, ltb-true, ne_eqb, not-false, not-true}
use Rattle.std.proofs.lemmas.List.Folds.{list_any_at}
use Rattle.std.proofs.lemmas.List.Quantifiers.{position-Some}
use Rattle.std.proofs.lemmas.Slice.Eq.{bytes_eq-Decides}
use Rattle.pl_urn.specs.Grammar.{IsScope}
use Rattle.pl_cli.specs.Table.{command_named, fits, option_named, option_text, required_once}
use Rattle.pl_cli.specs.Word.{begins_with_dash, name_part, own_value}
use Rattle.pl_cli.specs.Place.{dashed_role, form_after, form_wanted, given_value, has_value, may_stand, may_stand_as, names_option, option_row, plain_role, role_of, value_at, value_follows, word_at}
use Rattle.pl_cli.specs.Reading.{fault_place, misplaced_word}
use Rattle.pl_cli.specs.declared.table.CommandName.{CommandName}
use Rattle.pl_cli.specs.declared.table.CommandName.TheVariants.{Up, State}
use Rattle.pl_cli.specs.declared.table.OptionName.{OptionName}
use Rattle.pl_cli.specs.declared.table.OptionName.TheVariants.{Stack, Project, File}
use Rattle.pl_cli.specs.declared.table.Form.{Form}
use Rattle.pl_cli.specs.declared.table.Form.TheVariants.{NoColon}
use Rattle.pl_cli.specs.declared.table.OptionRow.{OptionRow}
use Rattle.pl_cli.specs.declared.place.Role.{Role}
use Rattle.pl_cli.specs.declared.place.Role.TheVariants.{Command, KnownOption, Value}

-- a word of the form without a colon is a name that a URN takes
IsScope-from_fits : (word : List ℕ) → fits NoColon word ≡ true → IsScope word
IsScope-from_fits [] h = cc
IsScope-from_fits (byte ∷ bytes) h = record {
  nonempty = omega arith;
  without_colon = λ k d below e. false≢true (sym (not-true _ h) ∙ list_any_at (λ b. b == 58) (byte ∷ bytes) k d below (eq-eqb _ _ e));
}

-- where a search finds nothing, its first element does not pass, and the rest has none that does
not_first : (test : Bool) (number : ℕ) (rest : Option ℕ) → cond test (Some number) rest ≡ None → (test ≡ false) × (rest ≡ None)
not_first true number rest h = let no : ⊥ = cc in absurd no
not_first false number rest h = (refl, h)

-- where a place and its substitute are both missing, the place is
first_none : (a b : Option ℕ) → option_or a b ≡ None → a ≡ None
first_none None b h = refl
first_none (Some _) b h = cc

-- where nothing is found, no number of the range passes
fails-find-range : (test : ℕ → Bool) (from len k : ℕ) → find test (range_with_len from len) ≡ None → k < len → test (from + k) ≡ false
fails-find-range test from zero k h below = absurd (omega arith)
fails-find-range test from (suc len) zero h below = rw add-zero (not_first (test from) from _ h).0
fails-find-range test from (suc len) (suc k) h below =
    let e : from + suc k ≡ from + 1 + k = omega arith in
    rw e (fails-find-range test (from + 1) len k (not_first (test from) from _ h).1 (omega arith))

-- where no fault has a place, each word may stand
pub stands : (command : CommandName) (words host : List (List ℕ)) (place : ℕ) → fault_place command words host ≡ None → place < length words → may_stand command words place ≡ true
unfolding misplaced_word
stands command words host place h below =
    let none : misplaced_word command words ≡ None = first_none (misplaced_word command words) _ h in
    not-false _ (rw zero-add at (fails-find-range (λ place. not (may_stand command words place)) 0 (length words) place none below))

-- a word whose front is the text of an option begins with a dash
dash-from_front : (count : ℕ) (word rest : List ℕ) → take count word ≡ 45 ∷ rest → begins_with_dash word ≡ true
dash-from_front zero word rest h = cc
dash-from_front (suc count) [] rest h = cc
dash-from_front (suc count) (byte ∷ bytes) rest h = eq-eqb byte 45 (cc)

-- and so does one whose name is an option's text
dash-from_name : (option : OptionName) (word : List ℕ) → name_part word ≡ option_text option → begins_with_dash word ≡ true
dash-from_name Stack word h = dash-from_front _ word (codes "-stack") h
dash-from_name Project word h = dash-from_front _ word (codes "-project") h
dash-from_name File word h = dash-from_front _ word (codes "-file") h

-- the table says that an option has to be given, with a name that a URN takes
abbrev IsScoped : OptionName → Type 0
IsScoped option = option_named Up (option_text option) ≡ Some (required_once option NoColon)

-- a test under which `up` is found passed
found_up : (test other : Bool) → cond test (Some Up) (cond other (Some State) None) ≡ Some Up → test ≡ true
found_up true other h = refl
found_up false true h = cc
found_up false false h = cc

-- the word that spells the command
command_word : (word : List ℕ) → command_named word ≡ Some Up → codes "up" ≡ word
command_word word h = (bytes_eq-Decides (codes "up") word).0 (found_up (bytes_eq (codes "up") word) (bytes_eq (codes "state") word) h)

-- which begins with no dash
command-dash : (word : List ℕ) → codes "up" ≡ word → begins_with_dash word ≡ false
command-dash word e = rw (← e)

-- where the value of an option stands
pub record IsGivenAt (option : OptionName) (words : List (List ℕ)) (value : List ℕ) (place : ℕ) : Type 0 where
  pub within : place < length words
  pub named : name_part (word_at words place) ≡ option_text option
  pub is : value_at words place ≡ value

-- a given value stands with a word that names the option
given_from_found : (option : OptionName) (words : List (List ℕ)) (value : List ℕ) (found : Option ℕ) → position (names_option option) words ≡ found → option_map (value_at words) found ≡ Some value → (place : ℕ) × IsGivenAt option words value place
given_from_found option words value None e h = cc
given_from_found option words value (Some place) e h =
    let at = position-Some (names_option option) words place [] e in (
      place,
      record {
        within = at.0;
        named = (bytes_eq-Decides _ _).0 at.1;
        is = cc;
      },
    )

-- the same, with the place that was found
given_at : (option : OptionName) (words : List (List ℕ)) (value : List ℕ) → given_value option words ≡ Some value → (place : ℕ) × IsGivenAt option words value place
unfolding given_value
given_at option words value h = given_from_found option words value (position (names_option option) words) refl h

-- what a later word with a dash is
dashed-role : (first dash : Bool) (row : Option OptionRow) (found : OptionRow) (other : Role) → first ≡ false → dash ≡ true → row ≡ Some found → (if first then Command else (if dash then dashed_role row else other)) ≡ KnownOption found
dashed-role first dash row found other later dashed known = rw (later, dashed, known)

-- what a later word without a dash is
plain-role : (first dash : Bool) (form : Option Form) (found : Form) (other : Role) → first ≡ false → dash ≡ false → form ≡ Some found → (if first then Command else (if dash then other else plain_role form)) ≡ Value found
plain-role first dash form found other later plain wanted = rw (later, plain, wanted)

-- a word with a dash is not the first one, which spells the command
later-than_command : (words : List (List ℕ)) (place : ℕ) → command_named (word_at words 0) ≡ Some Up → begins_with_dash (word_at words place) ≡ true → (place == 0) ≡ false
later-than_command words place spells dash =
    ne_eqb place 0 (λ e. false≢true (sym (command-dash (word_at words 0) (command_word (word_at words 0) spells)) ∙ subst (λ (n : ℕ). begins_with_dash (word_at words n) ≡ true) e dash))

-- the word that names an option has the role of that option
role-option : (option : OptionName) → IsScoped option → (words : List (List ℕ)) (value : List ℕ) (place : ℕ) → command_named (word_at words 0) ≡ Some Up → IsGivenAt option words value place → role_of Up words place ≡ KnownOption (required_once option NoColon)
unfolding role_of
role-option option known words value place spells given =
    let dash = dash-from_name option (word_at words place) given.named in
    dashed-role _ _ _ _ _ (later-than_command words place spells dash) dash (ap (option_named Up) given.named ∙ known)

-- an option without a value of its own waits for one
wanted-after : (option : OptionName) → IsScoped option → (word : List ℕ) → name_part word ≡ option_text option → own_value word ≡ None → form_after Up word ≡ Some NoColon
wanted-after option known word named none =
    let row : option_row Up word ≡ Some (required_once option NoColon) = ap (option_named Up) named ∙ known in
    ap (form_wanted (option_row Up word)) none ∙ ap (λ found. form_wanted found None) row

-- the word behind it is its value, where that does not begin with a dash
role-value : (option : OptionName) → IsScoped option → (words : List (List ℕ)) (place : ℕ) → name_part (word_at words place) ≡ option_text option → own_value (word_at words place) ≡ None → begins_with_dash (word_at words (place + 1)) ≡ false → role_of Up words (place + 1) ≡ Value NoColon
unfolding role_of
role-value option known words place named none plain =
    let e : place + 1 - 1 ≡ place = omega arith in
    let wanted : form_after Up (word_at words (place + 1 - 1)) ≡ Some NoColon
    = ap (λ (n : ℕ). form_after Up (word_at words n)) e ∙ wanted-after option known (word_at words place) named none in
    plain-role _ _ _ _ _ (ne_eqb (place + 1) 0 (λ same. omega arith)) plain wanted

-- a word that may stand may do so in its role
stands-as : (words : List (List ℕ)) (place : ℕ) (role : Role) → may_stand Up words place ≡ true → role_of Up words place ≡ role → may_stand_as role Up words place ≡ true
unfolding may_stand
stands-as words place role h e = sym (ap (λ role. may_stand_as role Up words place) e) ∙ h

-- the value that follows has the form
fits-following : (option : OptionName) → IsScoped option → (words host : List (List ℕ)) (place : ℕ) → fault_place Up words host ≡ None → name_part (word_at words place) ≡ option_text option → own_value (word_at words place) ≡ None → value_follows words place ≡ true → fits NoColon (word_at words (place + 1)) ≡ true
fits-following option known words host place faultless named none follows =
    let parts = and_parts _ _ follows in
    let stood = stands Up words host (place + 1) faultless (ltb-true _ _ parts.0) in
    stands-as words (place + 1) (Value NoColon) stood (role-value option known words place named none (not-true _ parts.1))

-- the value that stands with the option has the form, whether it is its own or follows
fits-value : (option : OptionName) → IsScoped option → (words host : List (List ℕ)) (place : ℕ) (own : Option (List ℕ)) → fault_place Up words host ≡ None → name_part (word_at words place) ≡ option_text option → own_value (word_at words place) ≡ own → has_value (Some NoColon) own (value_follows words place) ≡ true → fits NoColon (unwrap_or own (word_at words (place + 1))) ≡ true
fits-value option known words host place (Some value) faultless named is has = has
fits-value option known words host place None faultless named none has = fits-following option known words host place faultless named none has

-- the value that was found with the option has the form
fits-given : (option : OptionName) → IsScoped option → (words host : List (List ℕ)) (value : List ℕ) (place : ℕ) → command_named (word_at words 0) ≡ Some Up → fault_place Up words host ≡ None → IsGivenAt option words value place → fits NoColon (value_at words place) ≡ true
fits-given option known words host value place spells faultless given =
    let stood = stands Up words host place faultless given.within in
    let held = stands-as words place (KnownOption (required_once option NoColon)) stood (role-option option known words value place spells given) in
    fits-value option known words host place (own_value (word_at words place)) faultless given.named refl (and_parts _ _ held).1

-- a required option's value is a name that a URN takes
scope : (option : OptionName) → IsScoped option → (words host : List (List ℕ)) (value : List ℕ) → command_named (word_at words 0) ≡ Some Up → fault_place Up words host ≡ None → given_value option words ≡ Some value → IsScope value
scope option known words host value spells faultless given =
    let at = given_at option words value given in
    subst IsScope at.1.is (IsScope-from_fits _ (fits-given option known words host value at.0 spells faultless at.1))

-- the stack of words without a fault
pub stack_scope : (words host : List (List ℕ)) (value : List ℕ) → command_named (word_at words 0) ≡ Some Up → fault_place Up words host ≡ None → given_value Stack words ≡ Some value → IsScope value
stack_scope words host value spells faultless given = scope Stack refl words host value spells faultless given

-- the project of words without a fault
pub project_scope : (words host : List (List ℕ)) (value : List ℕ) → command_named (word_at words 0) ≡ Some Up → fault_place Up words host ≡ None → given_value Project words ≡ Some value → IsScope value
project_scope words host value spells faultless given = scope Project refl words host value spells faultless given
