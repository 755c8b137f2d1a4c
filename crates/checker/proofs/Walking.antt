-- What each way through the statements and declarations answers, over plain values.
use Rattle.std.proofs.Common.{◌≡◌, ℕ, ◌+◌, ◌<◌, ◌≤◌, List, ◌∷◌, length, drop, set, None, Ok, Err, Result, refl, ap, ◌∙◌, add-one, arith}
use Rattle.std.proofs.lemmas.Bool.{false≢true}
use Rattle.checker.specs.declared.node.Node.{Node}
use Rattle.checker.specs.declared.note.Note.{Note}
use Rattle.checker.specs.declared.refusal.Refusal.{Refusal}
use Rattle.checker.specs.declared.shelf.Name.{Name}
use Rattle.checker.specs.Questions.{then}
use Rattle.checker.specs.Search.{newest_first}
use Rattle.checker.specs.Scope.{built_ins}
use Rattle.checker.specs.Tree.{tree, item_at, Linked, left}
use Rattle.checker.specs.Typing.{Out, values}
use Rattle.checker.specs.Judge.{statement_at, statements, function, declarations, Walks, Declares}
use Rattle.checker.proofs.Newest.{newest_set}
use Rattle.checker.proofs.Chains.{Came}
use Rattle.checker.proofs.Trees.{tree_here, tree_out, tree_none, less_next}

-- A chain of statements that began at first, and has come to now, which is on table t'.
pub record Going (t : List Node) (names : List Name) (count first : ℕ) (notes : List Note) (t' : List Node) (now count' : ℕ) (notes' : List Note) : Type 0 where
  pub table : t' ≡ t
  pub fewer : left t now ≤ left t first
  pub kept : count' ≡ count
  pub beyond : drop (length t) notes' ≡ drop (length t) notes
  pub rest : statements (newest_first names count) (tree t first) notes ≡ statements (newest_first names count) (tree t now) notes'

-- what the statement d at node n comes to, with the names on the shelf
abbrev pub One : List Node → List Name → ℕ → ℕ → Node → List Note → Result (List Note) Refusal
One t names count n d notes =
    statement_at n d (values (newest_first names count) (tree t d.a)) (statements (newest_first names count) (tree t d.b)) notes

module _ {t : List Node} {names : List Name} {count first n count₁ : ℕ} {d : Node} {notes notes₁ : List Note} {now n' : ℕ} {t₁ t' : List Node} (linked : Linked t) (came : Came t now n d t' n') (going : Going t names count first notes t₁ now count₁ notes₁) where
  at_statement : statements (newest_first names count) (tree t first) notes ≡ then (One t names count₁ n d notes₁) (statements (newest_first names count) (tree t d.next))
  at_statement = going.rest ∙ rw (came.at, tree_here linked came.here, going.kept) refl

  pub statements_refused : {count₂ : ℕ} {notes₂ : List Note} {r : Result (Unit {0}) Refusal} {f : Refusal} → Walks t (One t names count₁ n d notes₁) count₁ notes₁ (Err f) count₂ notes₂ → r ≡ Err f → Walks t (statements (newest_first names count) (tree t first) notes) count notes r count₂ notes₂
  statements_refused h e =
      rw e (record { result = at_statement ∙ rw h.result refl; beyond = h.beyond ∙ going.beyond; kept = h.kept ∙ going.kept })

  pub statements_on : {count₂ : ℕ} {notes₂ : List Note} {u : Unit {0}} → Walks t (One t names count₁ n d notes₁) count₁ notes₁ (Ok u) count₂ notes₂ → Going t names count first notes t' n' count₂ notes₂
  statements_on h =
      let less = less_next linked came.here in
      record {
        table = came.table;
        fewer = rw came.on (omega (arith, ap (left t) came.at));
        kept = h.kept ∙ going.kept;
        beyond = h.beyond ∙ going.beyond;
        rest = at_statement ∙ rw (h.result, came.on) refl;
      }

pub statements_done : {t : List Node} {names : List Name} {count first n count₁ : ℕ} {notes notes₁ : List Note} {t' : List Node} → Going t names count first notes t' n count₁ notes₁ → item_at t n ≡ None → Walks t (statements (newest_first names count) (tree t first) notes) count notes (Ok tt) count₁ notes₁
statements_done {t} {names} {count} {first} {n} going z = record { result = going.rest ∙ rw (tree_out t n z) refl; beyond = going.beyond; kept = going.kept }

-- one built-in more
pub one_more : (names : List Name) (i : ℕ) → i < length names → newest_first names i ≡ built_ins i → newest_first (set names i (record { name = i + 1; declaration = 0 })) (i + 1) ≡ built_ins (i + 1)
one_more names i h e =
    newest_set names i (record { name = i + 1; declaration = 0 }) h
    ∙ ap (λ (ns : List Name). record { name = i + 1; declaration = 0 } ∷ ns) e
    ∙ rw add-one refl

-- The function d at node n, with the names on the shelf.
abbrev pub Whole : List Node → List Name → ℕ → ℕ → Node → List Note → Out (List Name)
Whole t names count n d notes = function (newest_first names count) n d (tree t d.b) notes

-- A chain of declarations that began at first, and has come to now, which is on table t'.
pub record Coming (t : List Node) (first : ℕ) (names : List Name) (count : ℕ) (notes : List Note) (t' : List Node) (now : ℕ) (names' : List Name) (count' : ℕ) (notes' : List Note) : Type 0 where
  pub table : t' ≡ t
  pub long : length names' ≡ 512
  pub room : count ≤ 512 → count' ≤ 512
  pub beyond : drop (length t) notes' ≡ drop (length t) notes
  pub rest : declarations (newest_first names count) (tree t first) notes ≡ declarations (newest_first names' count') (tree t now) notes'

module _ {t : List Node} {first : ℕ} {names : List Name} {count : ℕ} {notes : List Note} {n : ℕ} {d : Node} {names₁ : List Name} {count₁ : ℕ} {notes₁ : List Note} {now n' : ℕ} {t₁ t' : List Node} (linked : Linked t) (came : Came t now n d t' n') (coming : Coming t first names count notes t₁ now names₁ count₁ notes₁) where
  at_function : declarations (newest_first names count) (tree t first) notes ≡ then (Whole t names₁ count₁ n d notes₁) (λ (p : List Name × List Note). declarations p.0 (tree t d.next) p.1)
  at_function = coming.rest ∙ rw (came.at, tree_here linked came.here) refl

  pub declarations_refused : {names₂ : List Name} {count₂ : ℕ} {notes₂ : List Note} {r : Result (Unit {0}) Refusal} {f : Refusal} → Declares t (Whole t names₁ count₁ n d notes₁) count₁ notes₁ (Err f) names₂ count₂ notes₂ → r ≡ Err f → Declares t (declarations (newest_first names count) (tree t first) notes) count notes r names₂ count₂ notes₂
  declarations_refused h e =
      rw e (record { result = at_function ∙ rw h.result refl; beyond = h.beyond ∙ coming.beyond; room = λ _ x. absurd (false≢true x) })

  pub declarations_on : {names₂ : List Name} {count₂ : ℕ} {notes₂ : List Note} {u : Unit {0}} → Declares t (Whole t names₁ count₁ n d notes₁) count₁ notes₁ (Ok u) names₂ count₂ notes₂ → length names₂ ≡ 512 → Coming t first names count notes t' n' names₂ count₂ notes₂
  declarations_on h long =
      record {
        table = came.table;
        long = long;
        room = λ x. h.room (coming.room x) refl;
        beyond = h.beyond ∙ coming.beyond;
        rest = at_function ∙ rw (h.result, came.on) refl;
      }

pub declarations_done : {t : List Node} {first : ℕ} {names : List Name} {count : ℕ} {notes : List Note} {n : ℕ} {names₁ : List Name} {count₁ : ℕ} {notes₁ : List Note} {t' : List Node} → Coming t first names count notes t' n names₁ count₁ notes₁ → item_at t n ≡ None → Declares t (declarations (newest_first names count) (tree t first) notes) count notes (Ok tt) names₁ count₁ notes₁
declarations_done {t} {first} {names} {count} {notes} {n} coming z =
    record { result = coming.rest ∙ rw (tree_out t n z) refl; beyond = coming.beyond; room = λ x _. coming.room x }

-- an empty expression statement
pub empty_statement : {t : List Node} (names : List Name) (count n : ℕ) (d : Node) {notes : List Note} → d.kind ≡ 18 → d.a ≡ 0 → Walks t (One t names count n d notes) count notes (Ok tt) count notes
empty_statement {t} names count n d k z = record { result = rw (k, tree_none t d.a z) refl; beyond = refl; kept = refl }
