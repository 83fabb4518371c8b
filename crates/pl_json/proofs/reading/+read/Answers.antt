use Rattle.std.proofs.Common.{◌≡◌, ◌≢◌, ℕ, List, [], ◌∷◌, ◌++◌, IfOk, IfErr, Ok, Err, string_bytes, sym, ap, ◌∙◌, subst, append_assoc, rules}
use Rattle.pl_value.proofs.Levels.{is_value-Null, is_value-Flag}
use Rattle.pl_value.specs.Keys.{are_all_below, keys_of}
use Rattle.pl_value.specs.IsValue.{may_stand_under}
use Rattle.pl_value.specs.declared.json.JsonFault.TheVariants.{OutOfMemory}
use Rattle.serde_json.proofs.Views.{Entry, view-Array, view-Object}
use Rattle.serde_json.specs.Data.{number, string, array, object}
use Rattle.serde_json.specs.Find.{as_i64}
use Rattle.serde_json.specs.View.{view, items_view, members_view, number_view}
use Rattle.serde_json.specs.declared.value.Value.{the_lemmas}
use Rattle.pl_json.proofs.MemberKeys.{Rise, next_above, next_unmarked, keys_next}
use Rattle.pl_json.proofs.Readings.{after, read_in-number, read_in-string, read_in-above, members_read-next}
use Rattle.pl_json.specs.Read.{Reading, read_in, whole_read, text_read, list_read, object_read, members_read, is_marked}
use Rattle.pl_json.proofs.reading.+read.Goals as goal

pub read-returns-in-Null-clause-sound : goal.read-returns-in-Null-clause-sound
read-returns-in-Null-clause-sound t c = is_value-Null

pub read-returns-in-Bool-clause-sound : goal.read-returns-in-Bool-clause-sound
read-returns-in-Bool-clause-sound t c = is_value-Flag _

pub read-returns-in-Number-clause-read : goal.read-returns-in-Number-clause-read
read-returns-in-Number-clause-read t c =
    let viewed : view c.args.json.now ≡ number (number_view c.in-Number.number) = search (rules, the_lemmas) in
    let is : read_in c.args.levels (view c.args.json.now) ≡ whole_read (as_i64 (number_view c.in-Number.number)) =
    ap (read_in c.args.levels) viewed ∙ read_in-number c.args.levels (number_view c.in-Number.number) in
    subst (λ (told : Reading). IfOk c.read_number.result (λ value. told ≡ Ok value)) (sym is) c.read_number.ensures.read

-- no fault that was told is want of memory
told_always : (told : Reading) (answer : Reading) → IfErr answer (λ fault. told ≡ Err fault) → IfErr answer (λ fault. fault ≢ OutOfMemory → told ≡ Err fault)
told_always told (Ok v) always = tt
told_always told (Err fault) always = λ other. always

told_text : (told : Reading) (text : List ℕ) (answer : Reading) → told ≡ Ok (text_read text) → IfOk answer (λ v. v ≡ text_read text) → IfOk answer (λ v. told ≡ Ok v)
told_text told text (Ok v) is same = is ∙ ap Ok (sym same)
told_text told text (Err fault) is same = tt

pub read-returns-in-Number-clause-refused : goal.read-returns-in-Number-clause-refused
read-returns-in-Number-clause-refused t c =
    let viewed : view c.args.json.now ≡ number (number_view c.in-Number.number) = search (rules, the_lemmas) in
    let is : read_in c.args.levels (view c.args.json.now) ≡ whole_read (as_i64 (number_view c.in-Number.number)) =
    ap (read_in c.args.levels) viewed ∙ read_in-number c.args.levels (number_view c.in-Number.number) in
    told_always _ c.read_number.result (subst (λ (told : Reading). IfErr c.read_number.result (λ fault. told ≡ Err fault)) (sym is) c.read_number.ensures.refused)

pub read-returns-in-String-clause-read : goal.read-returns-in-String-clause-read
read-returns-in-String-clause-read t c =
    let viewed : view c.args.json.now ≡ string c.as_str.result.now = search (rules, the_lemmas) in
    let is : read_in c.args.levels (view c.args.json.now) ≡ Ok (text_read c.as_str.result.now) =
    ap (read_in c.args.levels) viewed ∙ read_in-string c.args.levels c.as_str.result.now in
    told_text _ c.as_str.result.now c.read_text.result is c.read_text.ensures.read

pub read-returns-in_ok-levels_inside-in-Array-clause-read :
    goal.read-returns-in_ok-levels_inside-in-Array-clause-read
read-returns-in_ok-levels_inside-in-Array-clause-read t c =
    let viewed : view c.args.json.now ≡ array (items_view c.as_slice.result.now) =
    ap view c.in-Array.is ∙ view-Array c.in-Array.items ∙ ap (λ vs. array (items_view vs)) (sym c.as_slice.ensures.value) in
    let is : read_in c.args.levels (view c.args.json.now) ≡ list_read (read_in c.in_ok-levels_inside-in-Array.field-0) (items_view c.as_slice.result.now) =
    ap (read_in c.args.levels) viewed ∙ read_in-above _ _ _ c.in_ok-levels_inside-in-Array.ensures.inside in
    subst (λ (told : Reading). IfOk c.read_list.result (λ value. told ≡ Ok value)) (sym is) c.read_list.ensures.read

pub read-returns-in_ok-levels_inside-in-Array-clause-refused :
    goal.read-returns-in_ok-levels_inside-in-Array-clause-refused
read-returns-in_ok-levels_inside-in-Array-clause-refused t c =
    let viewed : view c.args.json.now ≡ array (items_view c.as_slice.result.now) =
    ap view c.in-Array.is ∙ view-Array c.in-Array.items ∙ ap (λ vs. array (items_view vs)) (sym c.as_slice.ensures.value) in
    let is : read_in c.args.levels (view c.args.json.now) ≡ list_read (read_in c.in_ok-levels_inside-in-Array.field-0) (items_view c.as_slice.result.now) =
    ap (read_in c.args.levels) viewed ∙ read_in-above _ _ _ c.in_ok-levels_inside-in-Array.ensures.inside in
    subst (λ (told : Reading). IfErr c.read_list.result (λ fault. fault ≢ OutOfMemory → told ≡ Err fault)) (sym is) c.read_list.ensures.refused

pub read-returns-in_ok-levels_inside-in-Object-clause-read :
    goal.read-returns-in_ok-levels_inside-in-Object-clause-read
read-returns-in_ok-levels_inside-in-Object-clause-read t c =
    let viewed : view c.args.json.now ≡ object (members_view c.in-Object.members.entries) =
    ap view c.in-Object.is ∙ view-Object c.in-Object.members in
    let is : read_in c.args.levels (view c.args.json.now) ≡ object_read (read_in c.in_ok-levels_inside-in-Object.field-0) (members_view c.in-Object.members.entries) =
    ap (read_in c.args.levels) viewed ∙ read_in-above _ _ _ c.in_ok-levels_inside-in-Object.ensures.inside in
    subst (λ (told : Reading). IfOk c.read_object.result (λ value. told ≡ Ok value)) (sym is) c.read_object.ensures.read

pub read-returns-in_ok-levels_inside-in-Object-clause-refused :
    goal.read-returns-in_ok-levels_inside-in-Object-clause-refused
read-returns-in_ok-levels_inside-in-Object-clause-refused t c =
    let viewed : view c.args.json.now ≡ object (members_view c.in-Object.members.entries) =
    ap view c.in-Object.is ∙ view-Object c.in-Object.members in
    let is : read_in c.args.levels (view c.args.json.now) ≡ object_read (read_in c.in_ok-levels_inside-in-Object.field-0) (members_view c.in-Object.members.entries) =
    ap (read_in c.args.levels) viewed ∙ read_in-above _ _ _ c.in_ok-levels_inside-in-Object.ensures.inside in
    subst (λ (told : Reading). IfErr c.read_object.result (λ fault. fault ≢ OutOfMemory → told ≡ Err fault)) (sym is) c.read_object.ensures.refused

pub read_members-push-requires-clause-above : goal.read_members-push-requires-clause-above
read_members-push-requires-clause-above t c =
    let l = c.loop-key in
    let done = l.invariant.0 in
    let e : Entry = (c.in-Some.key.now, c.in-Some.data.now) in
    let left = c.next.new.self in
    let all : c.args.members.now.entries ≡ done ++ e ∷ left = l.invariant.1 ∙ ap (λ es. done ++ es) c.in-Some.ensures.steps in
    let named : c.in_ok-key.key ≡ string_bytes e.0 = search rules in
    ap (are_all_below l.fields) named ∙ next_above done e left l.fields (subst Rise all c.iter-key-items.ensures.ordered) l.invariant.2

pub read_members-push-requires-clause-unmarked : goal.read_members-push-requires-clause-unmarked
read_members-push-requires-clause-unmarked t c =
    let l = c.loop-key in
    let done = l.invariant.0 in
    let e : Entry = (c.in-Some.key.now, c.in-Some.data.now) in
    let left = c.next.new.self in
    let all : c.args.members.now.entries ≡ done ++ e ∷ left = l.invariant.1 ∙ ap (λ es. done ++ es) c.in-Some.ensures.steps in
    let named : c.in_ok-key.key ≡ string_bytes e.0 = search rules in
    ap (λ key. may_stand_under key c.in-Ok.value) named
    ∙ next_unmarked c.args.levels done e left c.in-Ok.value (subst Rise all c.iter-key-items.ensures.ordered)
    (ap (λ es. is_marked (members_view es)) (sym all) ∙ c.requires) c.in-Ok.ensures.read

pub read_members-loop-key-preserved : goal.read_members-loop-key-preserved
read_members-loop-key-preserved t c =
    let l = c.loop-key in
    let done = l.invariant.0 in
    let e : Entry = (c.in-Some.key.now, c.in-Some.data.now) in
    let left = c.next.new.self in
    let inside = read_in c.args.levels in
    let all : c.args.members.now.entries ≡ done ++ e ∷ left = l.invariant.1 ∙ ap (λ es. done ++ es) c.in-Some.ensures.steps in
    let named : c.in_ok-key.key ≡ string_bytes e.0 = search rules in
    let added : c.push.new.self ≡ l.fields ++ (c.in_ok-key.key, c.in-Ok.value) ∷ [] = search rules in
    let pushed : c.push.new.self ≡ l.fields ++ (string_bytes e.0, c.in-Ok.value) ∷ [] = added ∙ ap (λ key. l.fields ++ (key, c.in-Ok.value) ∷ []) named in (
      done ++ e ∷ [],
      all ∙ sym (append_assoc done (e ∷ []) left),
      ap keys_of pushed ∙ keys_next done e l.fields c.in-Ok.value l.invariant.2,
      l.invariant.3 ∙ ap (λ es. after l.fields (members_read inside (members_view es))) c.in-Some.ensures.steps
          ∙ members_read-next inside e left c.in-Ok.value l.fields c.in-Ok.ensures.read
          ∙ ap (λ fields. after fields (members_read inside (members_view left))) (sym pushed),
    )
