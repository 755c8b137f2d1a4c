-- The form of a table: questions about every node, whether or not it is reached.
use Rattle.std.specs.Prelude.{ℕ, ◌+◌, min, Bool, true, false, cond, not, ◌&&◌, ◌||◌, List, [], ◌∷◌, length, Some, None, Ok, Option, Result, ◌==◌, nat_le, nat_lt}
use Rattle.std.specs.List.{list_all}
use Rattle.checker.specs.declared.node.Node.{Node}
use Rattle.checker.specs.declared.refusal.Refusal.{Refusal}
use Rattle.checker.specs.declared.refusal.Question.{Question}
use Rattle.checker.specs.declared.refusal.Question.TheVariants.{TableSize, NodeForm, LinkedOnce, Depth}
use Rattle.checker.specs.declared.shape.Class.{Class}
use Rattle.checker.specs.declared.shape.Class.TheVariants.{Declaration, Block, Statement, Expression}
use Rattle.checker.specs.declared.shape.Child.{Child}
use Rattle.checker.specs.declared.shape.Child.TheVariants.{Absent, One, Optional, Chain}
use Rattle.checker.specs.declared.shape.Content.{Content}
use Rattle.checker.specs.declared.shape.Content.TheVariants.{Nothing, MainName, CalledName, IntLiteral}
use Rattle.checker.specs.declared.shape.Shape.{Shape}
use Rattle.checker.specs.Questions.{refuse, then}
use Rattle.checker.specs.Tree.{Tree, none, at, tree, node_at, item_at}
use Rattle.checker.specs.Chain.{link_fits, chain}

-- which kinds are of a class: statements are 10 to 12 and 14 to 18, expressions 20 to 41
abbrev pub of_class : Class → ℕ → Bool
of_class Declaration k = nat_le 2 k && nat_le k 4
of_class Block k = k == 10
of_class Statement k = (nat_le 10 k && nat_le k 12) || (nat_le 14 k && nat_le k 18)
of_class Expression k = nat_le 20 k && nat_le k 41

-- a node that has no type, holds this and has these children
abbrev pub plain : Content → Child → Child → Child → Shape
plain content a b c = record { typed = false; content = content; a = a; b = b; c = c }

-- the form of each kind
abbrev pub shape_of : ℕ → Option Shape
shape_of k =
    cond (k == 1) (Some (plain Nothing (Chain Declaration) Absent Absent))
    (cond (k == 2) (Some (record { typed = true; content = MainName; a = Absent; b = One Block; c = Absent }))
    (cond (k == 10) (Some (plain Nothing Absent (Chain Statement) Absent))
    (cond (k == 18) (Some (plain Nothing (Optional Expression) Absent Absent))
    (cond (k == 20) (Some (plain IntLiteral Absent Absent Absent))
    (cond (k == 25) (Some (plain CalledName (Chain Expression) Absent Absent)) None)))))

-- a type is 0 to 3 where the kind has one, else 0
abbrev pub type_fits : Bool → ℕ → Bool
type_fits typed ty = cond typed (nat_le ty 3) (ty == 0)

abbrev pub content_fits : Content → ℕ → Bool
content_fits Nothing v = v == 0
content_fits MainName v = v == 10
content_fits CalledName v = v == 2 || (v == 3 || (v == 9 || (v == 10 || (nat_le 16 v && nat_le v 255))))
content_fits IntLiteral v = nat_le v 2147483647

-- every item of a chain is of the class, as far as the links from item to item are right
abbrev pub chain_fits : List Node → Class → ℕ → Bool
chain_fits t class n = list_all (λ p. of_class class p.1.kind) (chain t n)

-- a single child is there, is of the class and nothing follows it
abbrev pub single_fits : Class → Option Node → Bool
single_fits class None = false
single_fits class (Some d) = of_class class d.kind && d.next == 0

abbrev pub one_fits : List Node → Class → ℕ → Bool
one_fits t class n = single_fits class (item_at t n)

abbrev pub child_fits : List Node → Child → ℕ → Bool
child_fits t Absent l = l == 0
child_fits t (One class) l = one_fits t class l
child_fits t (Optional class) l = l == 0 || one_fits t class l
child_fits t (Chain class) l = chain_fits t class l

-- the links of a node are right, whatever they lead to
abbrev pub links_fit : ℕ → ℕ → Node → Bool
links_fit len n d = link_fits len n d.a && (link_fits len n d.b && (link_fits len n d.c && link_fits len n d.next))

abbrev pub shape_fits : List Node → Node → Option Shape → Bool
shape_fits t d None = false
shape_fits t d (Some s) =
    type_fits s.typed d.ty
    && (content_fits s.content d.value
    && (child_fits t s.a d.a && (child_fits t s.b d.b && child_fits t s.c d.c)))

-- node 1 is the program, and nothing follows it
abbrev pub root_fits : ℕ → Node → Bool
root_fits n d = not (n == 1) || (d.kind == 1 && d.next == 0)

abbrev pub node_fits : List Node → ℕ → Node → Bool
node_fits t n d = links_fit (length t) n d && (root_fits n d && shape_fits t d (shape_of d.kind))

-- the first node, from the n-th on, that fails a test
abbrev pub ask_from : (ℕ → Node → Bool) → Question → ℕ → List Node → Result (Unit {0}) Refusal
ask_from test q n [] = Ok tt
ask_from test q n (d ∷ ds) = cond (test n d) (ask_from test q (n + 1) ds) (refuse q n d.line)

-- a question asked of each node in number order
abbrev pub ask_each : (ℕ → Node → Bool) → Question → List Node → Result (Unit {0}) Refusal
ask_each test q t = ask_from test q 1 t

-- 1 where a link leads to node n
abbrev pub hit : ℕ → ℕ → ℕ
hit n l = cond (l == n) 1 0

-- how many links of the nodes lead to node n
abbrev pub times_linked : List Node → ℕ → ℕ
times_linked [] n = 0
times_linked (d ∷ ds) n = hit n d.a + hit n d.b + hit n d.c + hit n d.next + times_linked ds n

-- every node but the first is linked exactly once
abbrev pub linked_once : List Node → ℕ → Node → Bool
linked_once t n d = n == 1 || times_linked t n == 1

-- the lower of two node numbers
abbrev pub lower : Option ℕ → Option ℕ → Option ℕ
lower None y = y
lower (Some x) None = Some x
lower (Some x) (Some y) = Some (min x y)

-- the lowest node that is more than 200 deep: children are a level deeper, a chain is equally deep
abbrev pub lowest_deep : ℕ → Tree → Option ℕ
lowest_deep depth none = None
lowest_deep depth (at n d a b c next) =
    cond (nat_lt 200 depth) (Some n)
    (lower (lower (lowest_deep (depth + 1) a) (lower (lowest_deep (depth + 1) b) (lowest_deep (depth + 1) c))) (lowest_deep depth next))

abbrev pub shallow : List Node → Option ℕ → Result (Unit {0}) Refusal
shallow t None = Ok tt
shallow t (Some n) = refuse Depth n (node_at t n).line

-- 1 to 4,096 nodes, and a place for each note
abbrev pub sized : ℕ → ℕ → Bool
sized len places = nat_le 1 len && (nat_le len 4096 && nat_le len places)

-- the question about the table's size, which names no node
abbrev pub ask_size : ℕ → ℕ → Result (Unit {0}) Refusal
ask_size len places = cond (sized len places) (Ok tt) (refuse TableSize 0 0)

-- the questions about every node, in their order
abbrev pub formed : List Node → Result (Unit {0}) Refusal
formed t =
    then (ask_each (node_fits t) NodeForm t)
    (λ _. then (ask_each (linked_once t) LinkedOnce t) (λ _. shallow t (lowest_deep 1 (tree t 1))))
