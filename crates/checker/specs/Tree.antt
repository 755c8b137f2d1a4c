-- A table whose links go up is a way to write down a tree.
use Rattle.std.specs.Prelude.{ℕ, zero, suc, ◌-◌, ◌<◌, ◌≤◌, if◌then◌else◌, List, length, ◌==◌, ◌≢◌, slice_index_or, None, Option}
use Rattle.std.specs.List.{slice_get}
use Rattle.checker.specs.declared.node.Node.{Node}

abbrev pub blank : Node
blank = record { kind = 0; ty = 0; value = 0; a = 0; b = 0; c = 0; next = 0; line = 0 }

-- node n of a table, counted from 1
abbrev pub node_at : List Node → ℕ → Node
node_at t n = slice_index_or t (n - 1) blank

-- an item by its number, which counts from 1
abbrev pub item_at : {X : Type 0} → List X → ℕ → Option X
item_at xs n = if n == 0 then None else slice_get xs (n - 1)

-- a node with its number, what stands below it on its three links, and what follows it
pub data Tree : Type 0 where
  none : Tree
  at : (number : ℕ) → Node → (a b c next : Tree) → Tree

-- the tree on a link, grown with room for so many levels
abbrev pub grow : List Node → ℕ → ℕ → Tree
grow t zero n = none
grow t (suc room) n =
    if n == 0 then none
    else at n (node_at t n) (grow t room (node_at t n).a) (grow t room (node_at t n).b) (grow t room (node_at t n).c) (grow t room (node_at t n).next)

-- the tree on a link: links go up, so the nodes from there on are room enough
unfoldable pub tree : List Node → ℕ → Tree
tree t n = grow t (suc (length t) - n) n

-- a link of node n is 0, or above its number and inside the table
abbrev pub Up : List Node → ℕ → ℕ → Type 0
Up t n l = (l ≢ 0) → (n < l) × (l ≤ length t)

pub record Links (t : List Node) (n : ℕ) : Type 0 where
  pub to_a : Up t n (node_at t n).a
  pub to_b : Up t n (node_at t n).b
  pub to_c : Up t n (node_at t n).c
  pub to_next : Up t n (node_at t n).next

-- every link of the table goes up and stays inside
abbrev pub Linked : List Node → Type 0
Linked t = (n : ℕ) → 0 < n → n ≤ length t → Links t n

-- how many nodes there are from a link on
unfoldable pub left : List Node → ℕ → ℕ
left t n = if n == 0 then 0 else suc (length t) - n
