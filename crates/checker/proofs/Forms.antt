-- The questions about the whole table, node after node.
use Rattle.std.proofs.Common.{◌≡◌, ℕ, zero, suc, ◌+◌, ◌-◌, ◌<◌, ◌≤◌, Bool, true, ◌&&◌, ltb, List, [], ◌∷◌, length, get_or, drop, IfSome, Option, None, Some, Ok, sym, refl, ◌∙◌, inl, inr, add-zero, arith}
use Rattle.std.proofs.lemmas.Bool.{lt-ltb, cond-true, cond-false, cases_Bool, and_parts}
use Rattle.checker.specs.declared.node.Node.{Node}
use Rattle.checker.specs.Tree.{node_at, tree, blank, Linked}
use Rattle.checker.specs.declared.refusal.Question.{Question}
use Rattle.checker.specs.declared.refusal.Question.TheVariants.{NodeForm}
use Rattle.checker.specs.Questions.{refuse}
use Rattle.checker.specs.Chain.{link_fits}
use Rattle.checker.specs.Form.{ask_from, ask_each, lower, lowest_deep, links_fit, root_fits, shape_fits, shape_of, node_fits}
use Rattle.checker.proofs.Trees.{Here, tree_here, link_up}

-- a question asked of one node more
module _ (test : ℕ → Node → Bool) (q : Question) (t : List Node) (i : ℕ) where
  -- what is asked of the nodes from the i-th place on is what the question comes to
  abbrev pub Asking : Type 0
  Asking = ask_each test q t ≡ ask_from test q (i + 1) (drop i t)

-- the links of a node that passed its test
links_parts : (len n : ℕ) (d : Node) → links_fit len n d ≡ true → (link_fits len n d.a ≡ true) × (link_fits len n d.b ≡ true) × (link_fits len n d.c ≡ true) × (link_fits len n d.next ≡ true)
links_parts len n d e =
    let p = and_parts (link_fits len n d.a) (link_fits len n d.b && (link_fits len n d.c && link_fits len n d.next)) e in
    let q = and_parts (link_fits len n d.b) (link_fits len n d.c && link_fits len n d.next) p.1 in
    let r = and_parts (link_fits len n d.c) (link_fits len n d.next) q.1 in
    (p.0, q.0, r.0, r.1)

-- where no node failed, each passed
asked_each : (test : ℕ → Node → Bool) (q : Question) (n : ℕ) (ds : List Node) → ask_from test q n ds ≡ Ok tt → (k : ℕ) → k < length ds → test (n + k) (get_or ds k blank) ≡ true
asked_each test q n [] e k h = absurd (omega arith)
asked_each test q n (d ∷ ds) e k h =
    elim (cases_Bool (test n d)) [
      | inl passed ↦ each passed k h (asked_each test q (n + 1) ds (sym (cond-true _ _ _ passed) ∙ e))
      | inr failed ↦
          let x = sym (cond-false (test n d) (ask_from test q (n + 1) ds) (refuse q n d.line) failed) ∙ e in
          let z : ◌≡◌ {A = ℕ} 0 1 = cc in absurd (omega arith)
    ]
  where
    each : test n d ≡ true → (k : ℕ) → k < suc (length ds) → ((j : ℕ) → j < length ds → test (n + 1 + j) (get_or ds j blank) ≡ true) → test (n + k) (get_or (d ∷ ds) k blank) ≡ true
    each first zero h rest = rw add-zero first
    each first (suc j) h rest = let lt : j < length ds = omega arith in let e : n + suc j ≡ n + 1 + j = omega arith in rw e (rest j lt)

-- a table whose nodes have their form is linked upwards
pub formed_linked : (t : List Node) → ask_each (node_fits t) NodeForm t ≡ Ok tt → Linked t
formed_linked t e n pos w =
    let lt : n - 1 < length t = omega arith in
    let same : 1 + (n - 1) ≡ n = omega arith in
    let passed : node_fits t n (node_at t n) ≡ true = rw same at (asked_each (node_fits t) NodeForm 1 t e (n - 1) lt) in
    let p = and_parts (links_fit (length t) n (node_at t n)) (root_fits n (node_at t n) && shape_fits t (node_at t n) (shape_of (node_at t n).kind)) passed in
    let l = links_parts (length t) n (node_at t n) p.0 in
    record {
      to_a = link_up t n (node_at t n).a l.0;
      to_b = link_up t n (node_at t n).b l.1;
      to_c = link_up t n (node_at t n).c l.2;
      to_next = link_up t n (node_at t n).next l.3;
    }

-- a node of a table of so many
abbrev pub Among : ℕ → Option ℕ → Type 0
Among m r = IfSome r (λ n. (0 < n) × (n ≤ m))

-- the lower of two nodes of a table is one of them
pub lower_within : (x y : Option ℕ) (m : ℕ) → Among m x → Among m y → Among m (lower x y)
lower_within None y m h k = k
lower_within (Some x) None m h k = h
lower_within (Some x) (Some y) m h k = (omega (arith, h, k), omega (arith, h, k))

-- a node that is too deep is the lowest below itself
pub deep_here : {t : List Node} {n depth : ℕ} {d : Node} → Linked t → Here t n d → 200 < depth → Some n ≡ lowest_deep depth (tree t n)
deep_here {t} {n} {depth} linked here deep =
    let e : ltb 200 depth ≡ true = lt-ltb _ _ deep in rw (tree_here linked here, e) refl
