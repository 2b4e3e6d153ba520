-- `content::views::bad_long` meets its contract: what it reads lies in the slice once its test was made. Assumes nothing.
use Rattle.std.proofs.Common.{refl, arith}
use Rattle.content.proofs.ViewLaws.{long-missing, long-past, prefix-in, long-is}
use Rattle.content.proofs.views.bad_long.Goals as goal

pub returns-then-kids-buffer : goal.returns-then-kids-buffer
returns-then-kids-buffer c =
    let g = c.before in
    let s = g.before.before in
    long-missing _ s.args.kids s.args.buffers s.args.here _ _ _ _ refl refl g.get-buffer.ensures.value refl c.if-kids-buffer.true

pub overflow_add-node : goal.overflow_add-node
overflow_add-node c = let s = c.before.before.before in omega (arith, s.requires.2.nodes c.get-buffer.result (omega arith))

pub get-rows-requires : goal.get-rows-requires
get-rows-requires c = let s = c.before.before.before.before in omega (arith, s.requires.2.nodes c.get-buffer.result (omega arith))

pub returns-then-rows-offset : goal.returns-then-rows-offset
returns-then-rows-offset c =
    let r = c.before.before in
    let g = r.before.before.before in
    let s = g.before.before in
    long-past _ s.args.kids s.args.buffers s.args.here _ _ _ _ c.get.ensures.value refl g.get-buffer.ensures.value r.get-offset.ensures.value _ r.get-rows.ensures.value c.if-rows-offset.true

pub overflow_add-node-2 : goal.overflow_add-node-2
overflow_add-node-2 c =
    let g = c.before.before.before.before.before in
    omega (arith, g.requires.2.nodes g.get-buffer.result (omega arith))

pub get-requires-2 : goal.get-requires-2
get-requires-2 c =
    let g = c.before.before.before.before.before in
    omega (arith, g.requires.2.nodes g.get-buffer.result (omega arith))

pub overflow_add-node-3 : goal.overflow_add-node-3
overflow_add-node-3 c =
    let g = c.before.before.before.before.before.before in
    omega (arith, g.requires.2.nodes g.get-buffer.result (omega arith))

pub get-requires-3 : goal.get-requires-3
get-requires-3 c =
    let g = c.before.before.before.before.before.before in
    omega (arith, g.requires.2.nodes g.get-buffer.result (omega arith))

pub get-requires-5 : goal.get-requires-5
get-requires-5 c =
    let d = c.before.before in
    let r = d.before.before.before in
    let g = r.before.before.before in
    let s = g.before.before in
    prefix-in _ s.args.kids s.args.buffers s.args.here _ _ _ _ d.get.ensures.value refl g.get-buffer.ensures.value r.get-offset.ensures.value _ r.get-rows.ensures.value
    s.requires.2 (omega arith) (omega arith) _ _ d.get-2.ensures.value c.get-3.ensures.value (omega arith)

pub returns : goal.returns
returns c =
    let d = c.before.before.before in
    let r = d.before.before.before in
    let g = r.before.before.before in
    let s = g.before.before in
    long-is _ s.args.kids s.args.buffers s.args.here _ _ _ _ d.get.ensures.value c.get-4.ensures.value g.get-buffer.ensures.value r.get-offset.ensures.value _ r.get-rows.ensures.value
    s.requires.2 (omega arith) (omega arith) _ _ d.get-2.ensures.value c.get-3.ensures.value _ c.get-5.ensures.value
