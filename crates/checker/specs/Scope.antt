-- The names in scope, the newest first.
use Rattle.std.specs.Prelude.{ℕ, zero, suc, List, [], ◌∷◌, Option}
use Rattle.checker.specs.declared.shelf.Name.{Name}
use Rattle.checker.specs.declared.node.Node.{Node}
use Rattle.checker.specs.Search.{find}

-- the names 1 to count, which no node of the script declares
abbrev pub built_ins : ℕ → List Name
built_ins zero = []
built_ins (suc n) = record { name = suc n; declaration = 0 } ∷ built_ins n

-- what every script has in scope: nine built-in functions
abbrev pub outermost : List Name
outermost = built_ins 9

-- the newest declaration of a name
abbrev pub means : List Name → ℕ → Option Name
means scope name = find (λ (e : Name). e.name) scope name

-- a name that node n declares
abbrev pub declared : ℕ → Node → Name
declared n d = record { name = d.value; declaration = n }
