-- The items of a chain, which follow one another by next.
use Rattle.std.specs.Prelude.{◌≡◌, ℕ, zero, suc, ◌-◌, if◌then◌else◌, ◌&&◌, ◌||◌, Bool, List, [], ◌∷◌, length, Some, None, Option, MatchOption, ◌==◌, nat_lt, nat_le}
use Rattle.checker.specs.declared.node.Node.{Node}
use Rattle.checker.specs.Tree.{node_at, item_at}

-- a link of node n, in a table of so many nodes, is 0 or goes up and stays inside
abbrev pub link_fits : ℕ → ℕ → ℕ → Bool
link_fits len n l = l == 0 || (nat_lt n l && nat_le l len)

-- what follows node n on this link; nothing does where the link is wrong
abbrev pub following : ℕ → ℕ → ℕ → ℕ
following len n l = if link_fits len n l then l else 0

-- the items of the chain on a link, grown with room for so many
abbrev pub chain_grown : List Node → ℕ → ℕ → List (ℕ × Node)
chain_grown t zero n = []
chain_grown t (suc room) n = if n == 0 then [] else (n, node_at t n) ∷ chain_grown t room (following (length t) n (node_at t n).next)

-- the items of the chain on a link, each with its number, as far as the links from item to item are right
unfoldable pub chain : List Node → ℕ → List (ℕ × Node)
chain t n = chain_grown t (suc (length t) - n) n

-- Node n of table t was to come next: r came, and node n' of table t' comes then.
pub record ChainGives (t : List Node) (n : ℕ) (r : Option (ℕ × Node)) (t' : List Node) (n' : ℕ) : Type 0 where
  pub first : MatchOption r ((chain t n ≡ []) × (chain t' n' ≡ [])) (λ p. chain t n ≡ p ∷ chain t' n')
  pub item : MatchOption r (item_at t n ≡ None) (λ p. (n ≡ p.0) × (item_at t n ≡ Some p.1))
  pub table : t' ≡ t
  pub then_on : MatchOption r (n' ≡ n) (λ p. n' ≡ following (length t) n (node_at t n).next)
