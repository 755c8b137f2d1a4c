-- How a tree hangs together.
use Rattle.std.proofs.Common.{◌≡◌, ℕ, zero, suc, ◌-◌, ◌<◌, ◌≤◌, true, ◌&&◌, eqb, ltb, leb, ◌⊎◌, List, length, Some, None, sym, refl, ◌∙◌, inl, inr, arith}
use Rattle.std.proofs.lemmas.Bool.{ne_eqb, eq-eqb, lt-ltb, le-leb, cases_eq, cases_lt, or_cases, and_parts, eqb-true, ltb-true, leb-true, cond-true, cond-false}
use Rattle.std.proofs.lemmas.Option.{slice_get_within, get_or_from_slice_get, slice_get-get_or}
use Rattle.std.specs.List.{slice_get}
use Rattle.checker.specs.declared.node.Node.{Node}
use Rattle.checker.specs.Tree.{Tree, none, at, grow, tree, node_at, item_at, blank, Linked, Links, Up, left}
use Rattle.checker.specs.Chain.{link_fits, following}

-- a link stays in the table
pub up_within : (t : List Node) (n l : ℕ) → Up t n l → l ≤ length t
up_within t n l u = elim (cases_eq l 0) [ inl e ↦ omega arith | inr ne ↦ (u ne).1 ]

-- the room that a node has is, less one, enough for its links
pub up_room : (t : List Node) (n l f : ℕ) → Up t n l → n ≤ length t → suc (length t) - n ≤ suc f → (suc (length t) - l ≤ f) ⊎ (l ≡ 0)
up_room t n l f u w p = elim (cases_eq l 0) [ inl e ↦ inr e | inr ne ↦ inl (omega (arith, u ne)) ]

-- a link that passed its test goes up
pub link_up : (t : List Node) (n l : ℕ) → link_fits (length t) n l ≡ true → Up t n l
link_up t n l e nz =
    elim (or_cases (eqb l 0) (ltb n l && leb l (length t)) e) [
      | inl z ↦ absurd (nz (eqb-true l 0 z))
      | inr b ↦ let p = and_parts (ltb n l) (leb l (length t)) b in (ltb-true n l p.0, leb-true l (length t) p.1)
    ]

pub grow_none : (t : List Node) (f : ℕ) → grow t f 0 ≡ none
grow_none t zero = refl
grow_none t (suc f) = refl

at_same : (n : ℕ) (d : Node) {a a' b b' c c' e e' : Tree} → a ≡ a' → b ≡ b' → c ≡ c' → e ≡ e' → at n d a b c e ≡ at n d a' b' c' e'
at_same n d p q r s = λ i. at n d (p i) (q i) (r i) (s i)

module _ (t : List Node) (linked : Linked t) where
  -- any room from what is needed on gives the same tree
  pub enough : (f g m : ℕ) → m ≤ length t → (suc (length t) - m ≤ f ⊎ m ≡ 0) → (suc (length t) - m ≤ g ⊎ m ≡ 0) → grow t f m ≡ grow t g m
  enough zero zero m w p q = refl
  enough zero (suc g) m w (inl p) q = absurd (omega arith)
  enough zero (suc g) m w (inr p) q = rw p refl
  enough (suc f) zero m w p (inl q) = absurd (omega arith)
  enough (suc f) zero m w p (inr q) = rw q refl
  enough (suc f) (suc g) m w (inr p) q = rw p refl
  enough (suc f) (suc g) m w (inl p) (inr q) = rw q refl
  enough (suc f) (suc g) m w (inl p) (inl q) =
      elim (cases_eq m 0) [
        | inl e ↦ rw e refl
        | inr ne ↦
            let pos : 0 < m = omega arith in
            let l = linked m pos w in
            let grown : (k : ℕ) → Up t m k → grow t f k ≡ grow t g k =
            λ k u. enough f g k (up_within t m k u) (up_room t m k f u w p) (up_room t m k g u w q) in
            rw (ne_eqb m 0 ne)
            (at_same m (node_at t m) (grown (node_at t m).a l.to_a) (grown (node_at t m).b l.to_b) (grown (node_at t m).c l.to_c) (grown (node_at t m).next l.to_next))
      ]

  -- a link's tree, at any room that is enough for its node
  tree_link : (n l f : ℕ) → Up t n l → n ≤ length t → suc (length t) - n ≤ suc f → grow t f l ≡ tree t l
  unfolding tree
  tree_link n l f u w p = enough f (suc (length t) - l) l (up_within t n l u) (up_room t n l f u w p) (inl (omega arith))

  -- one level of a tree
  pub tree_at : (n : ℕ) → (n ≡ 0 → ⊥) → n ≤ length t → tree t n ≡ at n (node_at t n) (tree t (node_at t n).a) (tree t (node_at t n).b) (tree t (node_at t n).c) (tree t (node_at t n).next)
  unfolding tree
  tree_at n nz w =
      let room : suc (length t) - n ≡ suc (length t - n) = omega arith in
      let enough-room : suc (length t) - n ≤ suc (length t - n) = omega arith in
      let pos : 0 < n = omega arith in
      let l = linked n pos w in
      let on : (k : ℕ) → Up t n k → grow t (length t - n) k ≡ tree t k = λ k u. tree_link n k (length t - n) u w enough-room in
      rw (room, ne_eqb n 0 nz)
      (at_same n (node_at t n) (on (node_at t n).a l.to_a) (on (node_at t n).b l.to_b) (on (node_at t n).c l.to_c) (on (node_at t n).next l.to_next))

pub tree_none : (t : List Node) (n : ℕ) → n ≡ 0 → tree t n ≡ none
unfolding tree
tree_none t n e = rw e (grow_none t (suc (length t) - 0))

left_at : (t : List Node) (n : ℕ) → 0 < n → left t n ≡ suc (length t) - n
unfolding left
left_at t n pos = let ne : n ≡ 0 → ⊥ = omega arith in rw (ne_eqb n 0 ne)

-- fewer are left from a node's link on
pub left_link : (t : List Node) (n l : ℕ) → 0 < n → n ≤ length t → Up t n l → left t l < left t n
unfolding left
left_link t n l pos w u =
    elim (cases_eq l 0) [
      | inl e ↦ let z : left t l ≡ 0 = rw e refl in omega (arith, left_at t n pos)
      | inr ne ↦ let p : 0 < l = omega arith in omega (arith, left_at t n pos, left_at t l p, u ne)
    ]

-- node n is there, and is d
pub record Here (t : List Node) (n : ℕ) (d : Node) : Type 0 where
  pub some : n ≡ 0 → ⊥
  pub within : n ≤ length t
  pub is : node_at t n ≡ d

pub item_here : (t : List Node) (n : ℕ) (d : Node) → item_at t n ≡ Some d → Here t n d
item_here t n d e =
    elim (cases_eq n 0) [
      | inl z ↦ let x = sym (cond-true _ None (slice_get t (n - 1)) (eq-eqb n 0 z)) ∙ e in let w : ◌≡◌ {A = ℕ} 0 1 = cc in absurd (omega arith)
      | inr nz ↦
          let got : slice_get t (n - 1) ≡ Some d = sym (cond-false _ None (slice_get t (n - 1)) (ne_eqb n 0 nz)) ∙ e in
          let inside : n - 1 < length t = slice_get_within t (n - 1) d got in
          record { some = nz; within = omega arith; is = get_or_from_slice_get t (n - 1) d blank got }
    ]

-- no node n is there: n is 0, or above the last
pub item_out : (t : List Node) (n : ℕ) → item_at t n ≡ None → (suc (length t) - n ≡ 0) ⊎ (n ≡ 0)
item_out t n e =
    elim (cases_eq n 0) [
      | inl z ↦ inr z
      | inr nz ↦
          let none : slice_get t (n - 1) ≡ None = sym (cond-false _ None (slice_get t (n - 1)) (ne_eqb n 0 nz)) ∙ e in
          elim (cases_lt (n - 1) (length t)) [
            | inl h ↦ let x = sym (slice_get-get_or t (n - 1) blank h) ∙ none in let w : ◌≡◌ {A = ℕ} 0 1 = cc in absurd (omega arith)
            | inr h ↦ inl (omega arith)
          ]
    ]

pub tree_out : (t : List Node) (n : ℕ) → item_at t n ≡ None → tree t n ≡ none
unfolding tree
tree_out t n e =
    elim (item_out t n e) [
      | inl z ↦ rw z refl
      | inr z ↦ tree_none t n z
    ]

-- what a node's links come to
module _ {t : List Node} (linked : Linked t) {n : ℕ} {d : Node} (here : Here t n d) where
  links : Links t n
  links = let nz : n ≡ 0 → ⊥ = here.some in linked n (omega arith) here.within

  less : (l : ℕ) → Up t n l → left t l < left t n
  less l u = let nz : n ≡ 0 → ⊥ = here.some in left_link t n l (omega arith) here.within u

  pub less_a : left t d.a < left t n
  less_a = less d.a (rw (← here.is) links.to_a)

  pub less_b : left t d.b < left t n
  less_b = less d.b (rw (← here.is) links.to_b)

  pub less_c : left t d.c < left t n
  less_c = less d.c (rw (← here.is) links.to_c)

  pub less_next : left t d.next < left t n
  less_next = less d.next (rw (← here.is) links.to_next)

  pub tree_here : tree t n ≡ at n d (tree t d.a) (tree t d.b) (tree t d.c) (tree t d.next)
  tree_here = rw (← here.is) (tree_at t linked n here.some here.within)

  -- a link that goes up is followed
  pub following_linked : following (length t) n (node_at t n).next ≡ d.next
  following_linked =
      elim (cases_eq d.next 0) [
        | inl z ↦ rw (here.is, z) refl
        | inr nz ↦
            let u : (n < d.next) × (d.next ≤ length t) = rw here.is at links.to_next nz in
            rw (here.is, ne_eqb d.next 0 nz, lt-ltb n d.next u.0, le-leb d.next (length t) u.1) refl
      ]

pub left_within : (t : List Node) (n : ℕ) → left t n ≤ length t
unfolding left
left_within t n =
    elim (cases_eq n 0) [
      | inl e ↦ let z : left t n ≡ 0 = rw e refl in omega arith
      | inr ne ↦ let p : 0 < n = omega arith in omega (arith, left_at t n p)
    ]
