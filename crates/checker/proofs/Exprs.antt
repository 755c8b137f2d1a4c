-- What each way through the expressions' functions answers, over plain values.
use Rattle.std.proofs.Common.{◌≡◌, ℕ, suc, ◌+◌, ◌-◌, ◌≤◌, Bool, true, false, cond, List, ◌∷◌, length, drop, set, IsErrAnd, Some, None, Ok, Err, Option, Result, refl, ap, ◌∙◌, add-zero, arith}
use Rattle.std.proofs.lemmas.List.{drop-set-lt}
use Rattle.std.proofs.lemmas.Result.{err_from_is_err_and}
use Rattle.checker.specs.declared.node.Node.{Node}
use Rattle.checker.specs.declared.note.Note.{Note}
use Rattle.checker.specs.declared.refusal.Refusal.{Refusal}
use Rattle.checker.specs.declared.shelf.Name.{Name}
use Rattle.checker.specs.declared.types.Ty.{Ty}
use Rattle.checker.specs.declared.types.Valued.{Valued}
use Rattle.checker.specs.declared.types.Arguments.{Arguments}
use Rattle.checker.specs.Questions.{then}
use Rattle.checker.specs.Notes.{put}
use Rattle.checker.specs.Tree.{tree, item_at, Linked, left}
use Rattle.checker.specs.Typing.{Out, note_of, is_int, valued, first_unfit, earlier, no_arguments, after, type_at, values, Types, Gathers}
use Rattle.checker.proofs.Chains.{Came}
use Rattle.checker.proofs.Trees.{tree_here, tree_out, less_next, left_within}

-- what the exit of a `?` returns
pub broken : {X : Type 0} (r : Result X Refusal) (f : Refusal) → IsErrAnd r (λ y. y ≡ f) → r ≡ Err f
broken r f h = let p = err_from_is_err_and r h in p.1 ∙ ap Err p.2

-- a note of the table leaves those beyond it
pub put_beyond : (t : List Node) (n : ℕ) (x : Note) (notes : List Note) → (n ≡ 0 → ⊥) → n ≤ length t → drop (length t) (put n x notes) ≡ drop (length t) notes
put_beyond t n x notes nz w = drop-set-lt (length t) notes (n - 1) x (omega arith)

-- one argument more
one_more : (s : Arguments) (x : Valued) (unfit : Option Valued) (out : Out (List Valued)) → unfit ≡ earlier s.unfit (cond (is_int x.ty) None (Some x))
    → after s (then out (λ (q : List Valued × List Note). Ok (x ∷ q.0, q.1))) ≡ after (record { count = s.count + 1; unfit = unfit }) out
one_more s x unfit (Err f) e = refl
one_more s x unfit (Ok p) e =
    let k : s.count + suc (length p.0) ≡ s.count + 1 + length p.0 = omega arith in
    rw (e, k) (ap (λ (u : Option Valued). Ok (record { count = s.count + 1 + length p.0; unfit = u }, p.1)) (unfits s.unfit (is_int x.ty)))
  where
    unfits : (u : Option Valued) (b : Bool) → earlier u (cond b (first_unfit p.0) (Some x)) ≡ earlier (earlier u (cond b None (Some x))) (first_unfit p.0)
    unfits (Some y) b = refl
    unfits None true = refl
    unfits None false = refl

-- A chain of expressions that began at first, and has come to now, which is on table t'.
pub record Gathering (t : List Node) (scope : List Name) (first : ℕ) (notes : List Note) (t' : List Node) (now : ℕ) (s : Arguments) (notes' : List Note) : Type 0 where
  pub table : t' ≡ t
  pub fewer : left t now ≤ left t first
  pub counted : s.count + left t now ≤ length t
  pub beyond : drop (length t) notes' ≡ drop (length t) notes
  pub rest : after no_arguments (values scope (tree t first) notes) ≡ after s (values scope (tree t now) notes')

pub chain_begun : {t : List Node} {scope : List Name} (first : ℕ) {notes : List Note} → Gathering t scope first notes t first no_arguments notes
chain_begun {t} {scope} first = record { table = refl; fewer = omega arith; counted = omega (arith, left_within t first); beyond = refl; rest = refl }

module _ {t : List Node} {scope : List Name} {first n : ℕ} {d : Node} {notes notes₁ : List Note} {s : Arguments} {now n' : ℕ} {t₁ t' : List Node} (linked : Linked t) (came : Came t now n d t' n') (going : Gathering t scope first notes t₁ now s notes₁) where
  chain_at : values scope (tree t now) notes₁ ≡ then (type_at scope n d (values scope (tree t d.a)) notes₁) (λ (p : Ty × List Note). then (values scope (tree t d.next) (put n (note_of p.0) p.1)) (λ (q : List Valued × List Note). Ok (valued n d p.0 ∷ q.0, q.1)))
  chain_at = rw (came.at, tree_here linked came.here) refl

  pub chain_refused : {notes₂ : List Note} {r : Result Arguments Refusal} {f : Refusal} → Types t scope n d notes₁ (Err f) notes₂ → r ≡ Err f → Gathers t scope first notes r notes₂
  chain_refused h e =
      rw e (record { result = going.rest ∙ ap (after s) chain_at ∙ rw h.result refl; beyond = h.beyond ∙ going.beyond })

  pub chain_on : {notes₂ : List Note} {ty : Ty} {u : Note} {unfit : Option Valued} → Types t scope n d notes₁ (Ok ty) notes₂ → u ≡ note_of ty → unfit ≡ earlier s.unfit (cond (is_int ty) None (Some (valued n d ty)))
      → Gathering t scope first notes t' n' (record { count = s.count + 1; unfit = unfit }) (set notes₂ (n - 1) u)
  chain_on {notes₂} {ty} {u} {unfit} h eu e =
      let less = less_next linked came.here in
      record {
        table = came.table;
        fewer = rw came.on (omega (arith, ap (left t) came.at));
        counted = rw came.on (omega (arith, ap (left t) came.at));
        beyond = put_beyond t n u notes₂ came.here.some came.here.within ∙ h.beyond ∙ going.beyond;
        rest =
            going.rest ∙ ap (after s) chain_at ∙ rw (h.result, eu, came.on)
            (one_more s (valued n d ty) unfit (values scope (tree t d.next) (put n (note_of ty) notes₂)) e);
      }

pub chain_done : {t : List Node} {scope : List Name} {first n : ℕ} {notes notes₁ : List Note} {s : Arguments} {t' : List Node} → Gathering t scope first notes t' n s notes₁ → item_at t n ≡ None → Gathers t scope first notes (Ok s) notes₁
chain_done {t} {scope} {first} {n} {notes} {notes₁} {s} going z =
    record { result = going.rest ∙ rw (tree_out t n z) (all_there s.unfit); beyond = going.beyond }
  where
    all_there : (u : Option Valued) → ◌≡◌ {A = Out Arguments} (Ok (record { count = s.count + 0; unfit = earlier u None }, notes₁)) (Ok (record { count = s.count; unfit = u }, notes₁))
    all_there (Some x) = rw add-zero refl
    all_there None = rw add-zero refl
