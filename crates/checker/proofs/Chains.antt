-- A chain, item after item.
use Rattle.std.proofs.Common.{◌≡◌, ℕ, zero, suc, ◌-◌, ◌<◌, ◌≤◌, ◌⊎◌, Option, List, [], ◌∷◌, length, Some, None, refl, ap, ◌∙◌, inl, inr, arith}
use Rattle.std.proofs.lemmas.Bool.{ne_eqb, cases_eq, cases_Bool}
use Rattle.checker.specs.declared.node.Node.{Node}
use Rattle.checker.specs.Tree.{node_at, item_at, Linked, Up, left}
use Rattle.checker.specs.Chain.{link_fits, following, chain_grown, chain, ChainGives}
use Rattle.checker.proofs.Trees.{up_within, up_room, link_up, left_link, Here, item_here, item_out, following_linked}

module _ (t : List Node) (n : ℕ) where
  pub chain_out : item_at t n ≡ None → chain t n ≡ []
  unfolding chain
  chain_out e =
      elim (item_out t n e) [
        | inl z ↦ rw z refl
        | inr z ↦ rw z (grown_none (suc (length t) - 0))
      ]
    where
      grown_none : (f : ℕ) → chain_grown t f 0 ≡ []
      grown_none zero = refl
      grown_none (suc f) = refl

  pub up_following : Up t n (following (length t) n (node_at t n).next)
  up_following =
      elim (cases_Bool (link_fits (length t) n (node_at t n).next)) [
        | inl fits ↦ rw fits (link_up t n (node_at t n).next fits)
        | inr not-fits ↦ rw not-fits (λ nz. absurd (nz refl))
      ]

  pub less_following : (n ≡ 0 → ⊥) → n ≤ length t → left t (following (length t) n (node_at t n).next) < left t n
  less_following nz w = left_link t n _ (omega arith) w up_following

-- any room from what is needed on gives the same items
enough : (t : List Node) (f g m : ℕ) → m ≤ length t → ((suc (length t) - m ≤ f) ⊎ (m ≡ 0)) → ((suc (length t) - m ≤ g) ⊎ (m ≡ 0)) → chain_grown t f m ≡ chain_grown t g m
enough t zero zero m w p q = refl
enough t zero (suc g) m w (inl p) q = absurd (omega arith)
enough t zero (suc g) m w (inr p) q = rw p refl
enough t (suc f) zero m w p (inl q) = absurd (omega arith)
enough t (suc f) zero m w p (inr q) = rw q refl
enough t (suc f) (suc g) m w (inr p) q = rw p refl
enough t (suc f) (suc g) m w (inl p) (inr q) = rw q refl
enough t (suc f) (suc g) m w (inl p) (inl q) =
    elim (cases_eq m 0) [
      | inl e ↦ rw e refl
      | inr ne ↦
          let u = up_following t m in
          let l : ℕ = following (length t) m (node_at t m).next in
          let rest = enough t f g l (up_within t m l u) (up_room t m l f u w p) (up_room t m l g u w q) in
          rw (ne_eqb m 0 ne) (ap (λ (ds : List (ℕ × Node)). (m, node_at t m) ∷ ds) rest)
    ]

-- one item of a chain
pub chain_at : (t : List Node) (n : ℕ) → (n ≡ 0 → ⊥) → n ≤ length t → chain t n ≡ (n, node_at t n) ∷ chain t (following (length t) n (node_at t n).next)
unfolding chain
chain_at t n nz w =
    let room : suc (length t) - n ≡ suc (length t - n) = omega arith in
    let enough-room : suc (length t) - n ≤ suc (length t - n) = omega arith in
    let u = up_following t n in
    let l : ℕ = following (length t) n (node_at t n).next in
    let rest = enough t (length t - n) (suc (length t) - l) l (up_within t n l u) (up_room t n l (length t - n) u w enough-room) (inl (omega arith)) in
    rw (room, ne_eqb n 0 nz) (ap (λ (ds : List (ℕ × Node)). (n, node_at t n) ∷ ds) rest)

-- what the iterator gives
pub gives_item : (t : List Node) (n n' : ℕ) (d : Node) → item_at t n ≡ Some d → n' ≡ following (length t) n d.next → ChainGives t n (Some (n, d)) t n'
gives_item t n n' d e f =
    let h = item_here t n d e in
    let on : n' ≡ following (length t) n (node_at t n).next = rw h.is f in
    record {
      first = chain_at t n h.some h.within ∙ rw (h.is, f) refl;
      item = (refl, e);
      table = refl;
      then_on = on;
    }

pub gives_none : (t : List Node) (n : ℕ) (r : Option (ℕ × Node)) → item_at t n ≡ None → r ≡ None → ChainGives t n r t n
gives_none t n r e z = rw z (record { first = (chain_out t n e, chain_out t n e); item = e; table = refl; then_on = refl })

pub less_left : (t : List Node) (n n' : ℕ) (d : Node) → item_at t n ≡ Some d → n' ≡ following (length t) n d.next → left t n' < left t n
less_left t n n' d e f =
    let h = item_here t n d e in
    rw (f, ← h.is) (less_following t n h.some h.within)

-- Node n of a script came, and is d; node n' of table t' comes next.
pub record Came (t : List Node) (now n : ℕ) (d : Node) (t' : List Node) (n' : ℕ) : Type 0 where
  pub here : Here t n d
  pub is : item_at t n ≡ Some d
  pub at : now ≡ n
  pub table : t' ≡ t
  pub on : n' ≡ d.next

pub came : {t t₁ t' : List Node} {now n n' : ℕ} {d : Node} → Linked t → t₁ ≡ t → ChainGives t₁ now (Some (n, d)) t' n' → Came t now n d t' n'
came {t} {t₁} {t'} {now} {n} {n'} {d} linked e g =
    let is : item_at t n ≡ Some d = rw (← e, ← g.item.0) g.item.1 in
    let here = item_here t n d is in
    record {
      here = here;
      is = is;
      at = g.item.0;
      table = g.table ∙ e;
      on = g.then_on ∙ rw (e, g.item.0) (following_linked linked here);
    }

-- the chain has ended
pub none_came : {t t₁ t' : List Node} {now n' : ℕ} → t₁ ≡ t → ChainGives t₁ now None t' n' → item_at t now ≡ None
none_came e g = rw (← e) g.item
