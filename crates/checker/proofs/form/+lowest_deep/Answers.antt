use Rattle.std.proofs.Common.{◌≡◌, false, ltb, length, sym, refl, ◌∙◌, ap₂, arith}
use Rattle.std.proofs.lemmas.Bool.{le-ltb}
use Rattle.checker.specs.Form.{lower}
use Rattle.checker.proofs.Trees.{item_here, tree_here, tree_out, less_a, less_b, less_c, less_next}
use Rattle.checker.proofs.Forms.{lower_within, deep_here}
use Rattle.checker.proofs.form.+lowest_deep.Goals as goal

pub returns-in_err-node : goal.returns-in_err-node
returns-in_err-node t c =
    record {
      value = rw (c.from_residual.ensures, tree_out c.args.script.nodes.now c.args.link (sym c.in_err-node.ensures)) refl;
      within = rw c.from_residual.ensures tt;
    }

pub returns-then-too_deep : goal.returns-then-too_deep
returns-then-too_deep t c =
    let here = item_here c.args.script.nodes.now c.args.link c.in_ok-node.node (sym c.in_ok-node.ensures) in
    record { value = deep_here c.args.script.linked here (omega arith); within = (let nz = here.some in omega arith, here.within) }

pub lowest_deep-a-requires : goal.lowest_deep-a-requires
lowest_deep-a-requires t c =
    let less = less_a c.args.script.linked (item_here c.args.script.nodes.now c.args.link c.in_ok-node.node (sym c.in_ok-node.ensures)) in (omega arith, omega arith)

pub lowest_deep-b-requires : goal.lowest_deep-b-requires
lowest_deep-b-requires t c =
    let less = less_b c.args.script.linked (item_here c.args.script.nodes.now c.args.link c.in_ok-node.node (sym c.in_ok-node.ensures)) in (omega arith, omega arith)

pub lowest_deep-c-requires : goal.lowest_deep-c-requires
lowest_deep-c-requires t c =
    let less = less_c c.args.script.linked (item_here c.args.script.nodes.now c.args.link c.in_ok-node.node (sym c.in_ok-node.ensures)) in (omega arith, omega arith)

pub lowest_deep-next-requires : goal.lowest_deep-next-requires
lowest_deep-next-requires t c =
    let less = less_next c.args.script.linked (item_here c.args.script.nodes.now c.args.link c.in_ok-node.node (sym c.in_ok-node.ensures)) in (omega arith, omega arith)

pub returns : goal.returns
returns t c =
    let here = item_here c.args.script.nodes.now c.args.link c.in_ok-node.node (sym c.in_ok-node.ensures) in
    let shallow : ltb 200 c.args.depth ≡ false = le-ltb _ _ (omega arith) in
    let one = c.lower_of.ensures ∙ ap₂ lower c.lowest_deep-b.ensures.value c.lowest_deep-c.ensures.value in
    let two = c.lower_of-2.ensures ∙ ap₂ lower c.lowest_deep-a.ensures.value one in
    let three = c.lower_of-3.ensures ∙ ap₂ lower two c.lowest_deep-next.ensures.value in
    let in_one = lower_within _ _ (length c.args.script.nodes.now) c.lowest_deep-b.ensures.within c.lowest_deep-c.ensures.within in
    let in_two = lower_within _ _ (length c.args.script.nodes.now) c.lowest_deep-a.ensures.within in_one in
    let in_three = lower_within _ _ (length c.args.script.nodes.now) in_two c.lowest_deep-next.ensures.within in
    record {
      value = three ∙ sym (rw (tree_here c.args.script.linked here, shallow) refl);
      within = rw (c.lower_of-3.ensures, c.lower_of-2.ensures, c.lower_of.ensures) in_three;
    }
