-- A reply that is read fits its call.
use Rattle.std.proofs.Common.{◌≡◌, ℕ, ◌==◌, Bool, true, false, cond, List, codes, Option, Some, None, option_map, refl}
use Rattle.std.proofs.lemmas.Bool.{and_from}
use Rattle.serde_json.specs.Data.{Data}
use Rattle.serde_json.specs.Find.{get, as_bool, as_object, as_str}
use Rattle.pl_events.specs.Replies.{are_shallow, reply_fits}
use Rattle.pl_events.specs.declared.operation.Call.{Call}
use Rattle.pl_events.specs.declared.operation.Call.TheVariants as call
use Rattle.pl_events.specs.declared.reply.Reply.{Reply}
use Rattle.pl_events.specs.declared.reply.Reply.TheVariants.{Checked, CheckFailed, Changed, Result as Resulted, Error}
use Rattle.pl_json.specs.Texts.{json_of}
use Rattle.pl_members.specs.Field.{Pairs, flag_or, nonempty_text, pairs, pairs_if_there, present, some_texts, text, texts_or_none, whole}
use Rattle.pl_provider_msg.specs.Reasons.{some_reasons}
use Rattle.pl_provider_msg.specs.Laws.{RepliesFit}
use Rattle.pl_provider_msg.specs.Response.{changed_partly_of, compared_of, error_of, failures_of, found_of, gone_if, gone_of, made_of, made_partly_of, partial_of, reply_by, reply_called, reply_in, reply_read, success_of}
use Rattle.pl_provider_msg.specs.Words.{changes_named}
use Rattle.pl_members.proofs.Steps.{Gives, gives, gives_map, gives_next}
use Rattle.pl_members.proofs.PlainPairs.{nonempty_text-there, pairs-shallow, pairs_if_there-shallow, some_list}

abbrev Fits : Call → Option Reply → Type 0
Fits asked read = Gives (λ reply. reply_fits asked reply ≡ true) read

-- ---- success

checked-fits : (asked : Call) (value : Option Data) → ((fields : Pairs) → are_shallow fields ≡ true → reply_fits asked (Checked fields) ≡ true) → Fits asked (option_map Checked (pairs value))
checked-fits asked value each = gives_map _ (pairs value) Checked (λ fields is. each fields (pairs-shallow value fields is))

compared-fits : (ok : Data) → Fits call.Diff (compared_of ok)
unfolding compared_of
compared-fits ok =
    gives_next _ (text (get (codes "changes") ok)) _ (λ word w.
    gives_next _ (changes_named word) _ (λ changes c.
    gives_next _ (texts_or_none (present (codes "replaces") ok)) _ (λ replaces r.
    gives_next _ (flag_or false (present (codes "delete_before_replace") ok)) _ (λ first f. refl))))

made-fits : (ok : Data) → Fits call.Create (made_of ok)
unfolding made_of
made-fits ok =
    gives_next _ (nonempty_text (get (codes "id") ok)) _ (λ id i.
    gives_next _ (pairs (get (codes "outputs") ok)) _ (λ outputs o.
    and_from _ _ (nonempty_text-there (get (codes "id") ok) id i) (pairs-shallow (get (codes "outputs") ok) outputs o)))

found-fits : (ok : Data) → Fits call.Read (found_of ok)
unfolding found_of
found-fits ok =
    gives_next _ (nonempty_text (get (codes "id") ok)) _ (λ id i.
    gives_next _ (pairs_if_there (present (codes "inputs") ok)) _ (λ inputs n.
    gives_next _ (pairs (get (codes "outputs") ok)) _ (λ outputs o.
    and_from _ _
    (and_from _ _ (nonempty_text-there (get (codes "id") ok) id i) (pairs_if_there-shallow (present (codes "inputs") ok) inputs n))
    (pairs-shallow (get (codes "outputs") ok) outputs o))))

success-fits : (asked : Call) (ok : Data) → Fits asked (success_of asked ok)
success-fits call.CheckConfig ok = checked-fits call.CheckConfig (get (codes "inputs") ok) (λ fields shallow. shallow)
success-fits call.Configure ok = gives_map _ (as_object ok) _ (λ ms is. refl)
success-fits call.Check ok = checked-fits call.Check (get (codes "inputs") ok) (λ fields shallow. shallow)
success-fits call.Diff ok = compared-fits ok
success-fits call.Create ok = made-fits ok
success-fits call.Update ok = gives_map _ (pairs (get (codes "outputs") ok)) Changed (λ outputs o. pairs-shallow (get (codes "outputs") ok) outputs o)
success-fits call.Delete ok = gives_map _ (as_object ok) _ (λ ms is. refl)
success-fits call.Read ok = found-fits ok
success-fits call.Invoke ok = gives_map _ (pairs (get (codes "result") ok)) Resulted (λ fields f. pairs-shallow (get (codes "result") ok) fields f)

-- ---- the other replies

error-fits : (asked : Call) (error : Data) → Fits asked (error_of error)
error-fits asked error = gives_map _ (as_str error) Error (λ text is. by_call asked text)
  where
    by_call : (asked : Call) (text : List ℕ) → reply_fits asked (Error text) ≡ true
    by_call call.CheckConfig text = refl
    by_call call.Configure text = refl
    by_call call.Check text = refl
    by_call call.Diff text = refl
    by_call call.Create text = refl
    by_call call.Update text = refl
    by_call call.Delete text = refl
    by_call call.Read text = refl
    by_call call.Invoke text = refl

failures-fits : (asked : Call) (failures : Data) → Fits asked (failures_of asked failures)
failures-fits call.CheckConfig failures = gives_map _ (some_reasons failures) CheckFailed (λ reasons r. some_list _ reasons r)
failures-fits call.Configure failures = tt
failures-fits call.Check failures = gives_map _ (some_reasons failures) CheckFailed (λ reasons r. some_list _ reasons r)
failures-fits call.Diff failures = tt
failures-fits call.Create failures = tt
failures-fits call.Update failures = tt
failures-fits call.Delete failures = tt
failures-fits call.Read failures = tt
failures-fits call.Invoke failures = tt

made_partly-fits : (partial : Data) → Fits call.Create (made_partly_of partial)
unfolding made_partly_of
made_partly-fits partial =
    gives_next _ (nonempty_text (get (codes "id") partial)) _ (λ id i.
    gives_next _ (pairs (get (codes "outputs") partial)) _ (λ outputs o.
    gives_next _ (some_texts (get (codes "reasons") partial)) _ (λ reasons r.
    and_from _ _
    (and_from _ _ (nonempty_text-there (get (codes "id") partial) id i) (pairs-shallow (get (codes "outputs") partial) outputs o))
    (some_list _ reasons r))))

changed_partly-fits : (partial : Data) → Fits call.Update (changed_partly_of partial)
unfolding changed_partly_of
changed_partly-fits partial =
    gives_next _ (pairs (get (codes "outputs") partial)) _ (λ outputs o.
    gives_next _ (some_texts (get (codes "reasons") partial)) _ (λ reasons r.
    and_from _ _ (pairs-shallow (get (codes "outputs") partial) outputs o) (some_list _ reasons r)))

partial-fits : (asked : Call) (partial : Data) → Fits asked (partial_of asked partial)
partial-fits call.CheckConfig partial = tt
partial-fits call.Configure partial = tt
partial-fits call.Check partial = tt
partial-fits call.Diff partial = tt
partial-fits call.Create partial = made_partly-fits partial
partial-fits call.Update partial = changed_partly-fits partial
partial-fits call.Delete partial = tt
partial-fits call.Read partial = tt
partial-fits call.Invoke partial = tt

gone_if-fits : (flag : Bool) → Fits call.Read (gone_if flag)
gone_if-fits true = refl
gone_if-fits false = tt

gone-fits : (asked : Call) (gone : Data) → Fits asked (gone_of asked gone)
gone-fits call.CheckConfig gone = tt
gone-fits call.Configure gone = tt
gone-fits call.Check gone = tt
gone-fits call.Diff gone = tt
gone-fits call.Create gone = tt
gone-fits call.Update gone = tt
gone-fits call.Delete gone = tt
gone-fits call.Read gone = gives_next _ (as_bool gone) gone_if (λ flag is. gone_if-fits flag)
gone-fits call.Invoke gone = tt

-- ---- the reply

reply_by-fits : (asked : Call) (ok error failures partial gone : Option Data) → Fits asked (reply_by asked ok error failures partial gone)
reply_by-fits asked (Some ok) None None None None = success-fits asked ok
reply_by-fits asked None (Some error) None None None = error-fits asked error
reply_by-fits asked None None (Some failures) None None = failures-fits asked failures
reply_by-fits asked None None None (Some partial) None = partial-fits asked partial
reply_by-fits asked None None None None (Some gone) = gone-fits asked gone
reply_by-fits asked _ _ _ _ _ = tt

fits_if : (asked : Call) (same : Bool) (read : Option Reply) → Fits asked read → Fits asked (cond same read None)
fits_if asked true read fits = fits
fits_if asked false read fits = tt

reply_called-fits : (asked : Call) (message : Data) → Fits asked (reply_called asked message)
unfolding reply_called
reply_called-fits asked message = reply_by-fits asked _ _ _ _ _

reply_read-fits : (ticket : ℕ) (asked : Call) (message : Data) → Fits asked (reply_read ticket asked message)
unfolding reply_read
reply_read-fits ticket asked message =
    gives_next _ (whole (get (codes "n") message)) _ (λ n is. fits_if asked (n == ticket) (reply_called asked message) (reply_called-fits asked message))

pub replies_fit : RepliesFit
unfolding reply_in
replies_fit ticket asked bytes reply is =
    gives (λ one. reply_fits asked one ≡ true) (reply_in ticket asked bytes) reply
    (gives_next _ (json_of bytes) _ (λ message read. reply_read-fits ticket asked message)) is
