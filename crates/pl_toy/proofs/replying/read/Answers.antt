use Rattle.std.proofs.Common.{◌≡◌, ℕ, List, Option, Some, None, false, true, sym, ap, ◌∙◌}
use Rattle.pl_events.specs.declared.reply.Reply.TheVariants.{Gone}
use Rattle.pl_toy.specs.Table.{found_by, inputs_of, is_long, unless_long}
use Rattle.pl_toy.proofs.Answering.{by_any, by_thing, reply-long, reply-short, gone-empty, gone-none}
use Rattle.pl_toy.proofs.replying.read.Goals as goal

pub returns-then-is_long-clause-found : goal.returns-then-is_long-clause-found
returns-then-is_long-clause-found g c =
    let long : is_long c.args.id.now ≡ true = sym (ap is_long c.as_str.ensures) ∙ sym c.is_long.ensures ∙ c.if-is_long.true in
    by_any (g.H.Shelf.things c.args.shelf.now) _ (λ held. reply-long c.args.id.now (found_by c.args.id.now (inputs_of (held c.args.id.now))) c.in_ok-refusal.field-0 long c.in_ok-refusal.ensures)

pub returns-then-is_empty-clause-found : goal.returns-then-is_empty-clause-found
returns-then-is_empty-clause-found g c =
    by_any (g.H.Shelf.things c.args.shelf.now) _ (λ held. gone-empty c.args.id.now (inputs_of (held c.args.id.now)) (c.is_empty.ensures.0 c.if-is_empty.true))

pub returns-in_ok-found-in-Some-clause-found : goal.returns-in_ok-found-in-Some-clause-found
returns-in_ok-found-in-Some-clause-found g c =
    let short : is_long c.args.id.now ≡ false = sym (ap is_long c.as_str.ensures) ∙ sym c.is_long.ensures ∙ c.if-is_long.false in
    let got = rw (c.as_str-2.ensures, c.in-Some.is) at c.in_ok-bytes.ensures.thing in
    let reply : c.in_ok-found-in-Some.field-0 ≡ found_by c.args.id.now (inputs_of (Some c.in-Some.bytes)) =
    c.in_ok-found-in-Some.ensures ∙ ap (λ (bytes : List ℕ). found_by c.args.id.now (inputs_of (Some bytes))) c.as_slice.ensures
    in
    by_thing (g.H.Shelf.things c.args.shelf.now) c.args.id.now (Some c.in-Some.bytes)
    (λ thing. c.in_ok-found-in-Some.field-0 ≡ unless_long c.args.id.now (found_by c.args.id.now (inputs_of thing))) got
    (reply-short c.args.id.now (found_by c.args.id.now (inputs_of (Some c.in-Some.bytes))) c.in_ok-found-in-Some.field-0 short reply)

pub returns-in-None-clause-found : goal.returns-in-None-clause-found
returns-in-None-clause-found g c =
    let short : is_long c.args.id.now ≡ false = sym (ap is_long c.as_str.ensures) ∙ sym c.is_long.ensures ∙ c.if-is_long.false in
    let got = rw (c.as_str-2.ensures, c.in-None.is) at c.in_ok-bytes.ensures.thing in
    by_thing (g.H.Shelf.things c.args.shelf.now) c.args.id.now None
    (λ thing. Gone ≡ unless_long c.args.id.now (found_by c.args.id.now (inputs_of thing))) got (gone-none c.args.id.now short)
