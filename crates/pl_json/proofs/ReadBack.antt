-- Data whose numbers are whole and whose keys rise is read back from its text.
use Rattle.std.proofs.Common.{◌≡◌, ℕ, ℤ, suc, pos, negsuc, ◌≤◌, max, true, List, [], Option, Some, option_map, option_and_then, Less, Greater, refl, sym, ap, ap₂, ◌∙◌, arith, append-nil}
use Rattle.std.specs.Cmp.Lexicographic.{slice_cmp}
use Rattle.std.specs.Ordering.{nat_cmp}
use borrow.Author.Tests.{ltb-true}
use Rattle.json.specs.Json as json
use Rattle.json.specs.Lex.{tokens}
use Rattle.json.specs.Tree as tree
use Rattle.json.specs.Token.{Token}
use Rattle.json.proofs.Printed.Tokens.{tokens-print}
use Rattle.json.proofs.Printed.Trees.{value-json_tokens, ArePrintable-json_tokens}
use Rattle.pl_value.proofs.Rising.{reversed, less_from}
use Rattle.pl_value.specs.Keys.{is_below}
use Rattle.serde_json.specs.Data.{Num, Data, null, boolean, number, string, array, object, Items, no_items, item, Members, no_members, member, put, depth, items_depth, members_depth}
use Rattle.serde_json.specs.Find.{of_integer}
use Rattle.serde_json.specs.Read.{number_of, of_json, of_items, of_members, max_depth, read}
use Rattle.serde_json.specs.Written.{number_text, compact_text, outline, items_outline, members_outline}
use Rattle.serde_json.proofs.Numbers.{number_of-decimal, number_of-negative}
use Rattle.serde_json.proofs.Texts.{print-outline}
use Rattle.pl_json.proofs.TextTells.{IsWhole, HasWholes, ItemsHaveWholes, MembersHaveWholes, HasNumbers-outline}
use Rattle.pl_json.specs.Fits.{fits}

-- each key is above this one
abbrev pub AllAbove : List ℕ → Members → Type 0
AllAbove low no_members = Unit {0}
AllAbove low (member key d ms) = (is_below low key ≡ true) × AllAbove low ms

-- the keys of each object rise
abbrev mutual
  pub Rises : Data → Type 0
  Rises null = Unit {0}
  Rises (boolean b) = Unit {0}
  Rises (number n) = Unit {0}
  Rises (string s) = Unit {0}
  Rises (array ds) = ItemsRise ds
  Rises (object ms) = MembersRise ms

  pub ItemsRise : Items → Type 0
  ItemsRise no_items = Unit {0}
  ItemsRise (item d ds) = Rises d × ItemsRise ds

  pub MembersRise : Members → Type 0
  MembersRise no_members = Unit {0}
  MembersRise (member key d ms) = Rises d × AllAbove key ms × MembersRise ms

-- ---- members that are put one after another

abbrev then_members : Members → Members → Members
then_members no_members ms = ms
then_members (member key d done) ms = member key d (then_members done ms)

abbrev AllBelow : Members → List ℕ → Type 0
AllBelow no_members high = Unit {0}
AllBelow (member key d done) high = (is_below key high ≡ true) × AllBelow done high

-- each key of the first is below each of the others
abbrev Under : Members → Members → Type 0
Under done no_members = Unit {0}
Under done (member key d ms) = AllBelow done key × Under done ms

put_at_end : (done : Members) (key : List ℕ) (d : Data) → AllBelow done key → put key d done ≡ then_members done (member key d no_members)
put_at_end no_members key d below = refl
put_at_end (member low e done) key d below =
    let above : slice_cmp nat_cmp key low ≡ Greater = reversed low key Less (less_from _ below.0) in
    rw above (ap (member low e) (put_at_end done key d below.1))

then_none : (done : Members) → then_members done no_members ≡ done
then_none no_members = refl
then_none (member key d done) = ap (member key d) (then_none done)

then_next : (done : Members) (key : List ℕ) (d : Data) (ms : Members) → then_members (then_members done (member key d no_members)) ms ≡ then_members done (member key d ms)
then_next no_members key d ms = refl
then_next (member low e done) key d ms = ap (member low e) (then_next done key d ms)

all_below_next : (done : Members) (key : List ℕ) (d : Data) (high : List ℕ) → AllBelow done high → is_below key high ≡ true → AllBelow (then_members done (member key d no_members)) high
all_below_next no_members key d high below last = (last, tt)
all_below_next (member low e done) key d high below last = (below.0, all_below_next done key d high below.1 last)

under_next : (done : Members) (key : List ℕ) (d : Data) (ms : Members) → Under done ms → AllAbove key ms → Under (then_members done (member key d no_members)) ms
under_next done key d no_members under above = tt
under_next done key d (member high e ms) under above = (all_below_next done key d high under.0 above.0, under_next done key d ms under.1 above.1)

under_none : (ms : Members) → Under no_members ms
under_none no_members = tt
under_none (member key d ms) = (tt, under_none ms)

-- ---- the outline is the data's

number_of-integer : (whole : ℤ) → fits whole ≡ true → number_of (number_text (of_integer whole)) ≡ Some (of_integer whole)
number_of-integer (pos n) small = number_of-decimal n (omega (arith, ltb-true))
number_of-integer (negsuc n) small = number_of-negative n (omega (arith, ltb-true))

number_of-whole : (n : Num) → IsWhole n → number_of (number_text n) ≡ Some n
number_of-whole n w = ap (λ m. number_of (number_text m)) w.2 ∙ number_of-integer w.0 w.1 ∙ ap Some (sym w.2)

mutual
  of_json-outline : (d : Data) → HasWholes d → Rises d → of_json (outline d) ≡ Some d
  of_json-outline null w r = refl
  of_json-outline (boolean b) w r = refl
  of_json-outline (number n) w r = ap (option_map number) (number_of-whole n w)
  of_json-outline (string s) w r = refl
  of_json-outline (array ds) w r = ap (option_map array) (of_items-outline ds w r)
  of_json-outline (object ms) w r = ap (option_map object) (of_members-outline ms no_members w r (under_none ms))

  of_items-outline : (ds : Items) → ItemsHaveWholes ds → ItemsRise ds → of_items (items_outline ds) ≡ Some ds
  of_items-outline no_items w r = refl
  of_items-outline (item d ds) w r =
      ap (option_and_then (λ e. option_map (item e) (of_items (items_outline ds)))) (of_json-outline d w.0 r.0)
      ∙ ap (option_map (item d)) (of_items-outline ds w.1 r.1)

  of_members-outline : (ms done : Members) → MembersHaveWholes ms → MembersRise ms → Under done ms → of_members (members_outline ms) done ≡ Some (then_members done ms)
  of_members-outline no_members done w r under = ap Some (sym (then_none done))
  of_members-outline (member key d ms) done w r under =
      ap (option_and_then (λ e. of_members (members_outline ms) (put key e done))) (of_json-outline d w.0 r.0)
      ∙ ap (of_members (members_outline ms)) (put_at_end done key d under.0)
      ∙ of_members-outline ms (then_members done (member key d no_members)) w.1 r.2 (under_next done key d ms under.1 r.1)
      ∙ ap Some (then_next done key d ms)

mutual
  pub depth-outline : (d : Data) → tree.depth (outline d) ≡ depth d
  depth-outline null = refl
  depth-outline (boolean b) = refl
  depth-outline (number n) = refl
  depth-outline (string s) = refl
  depth-outline (array ds) = ap suc (items_depth-outline ds)
  depth-outline (object ms) = ap suc (members_depth-outline ms)

  items_depth-outline : (ds : Items) → tree.items_depth (items_outline ds) ≡ items_depth ds
  items_depth-outline no_items = refl
  items_depth-outline (item d ds) = ap₂ max (depth-outline d) (items_depth-outline ds)

  members_depth-outline : (ms : Members) → tree.members_depth (members_outline ms) ≡ members_depth ms
  members_depth-outline no_members = refl
  members_depth-outline (member key d ms) = ap₂ max (depth-outline d) (members_depth-outline ms)

-- ---- the text

abbrev pub whole : Option (json.Json × List Token) → Option Data
whole o = option_and_then of_json (option_and_then (λ p. json.if_last p.0 p.1) o)

read_outline : (d : Data) (deep : ℕ) → HasWholes d → Rises d → depth d ≤ deep → whole (json.value deep (tokens (compact_text d))) ≡ Some d
read_outline d deep w r shallow =
    let told : tokens (compact_text d) ≡ tree.json_tokens (outline d) =
    ap tokens (sym (print-outline d)) ∙ tokens-print (tree.json_tokens (outline d)) (ArePrintable-json_tokens (outline d) (HasNumbers-outline d w)) in
    ap (λ ts. whole (json.value deep ts)) (told ∙ sym (append-nil (tree.json_tokens (outline d))))
    ∙ ap whole (value-json_tokens (outline d) deep [] (omega (arith, depth-outline d)))
    ∙ of_json-outline d w r

pub read_back : (d : Data) → HasWholes d → Rises d → depth d ≤ max_depth → read (compact_text d) ≡ Some d
read_back d w r shallow = read_outline d max_depth w r shallow
