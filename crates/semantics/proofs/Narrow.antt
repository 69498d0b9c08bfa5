-- Equal and the constraints: taking one narrows the assignments that solve the path to those under which it holds.
use Prim.Native.Nat.{◌≤◌, suc, ℕ}
use mathlib.Core.Bool.{Bool, false, true}
use mathlib.Core.List.{List, [], ◌++◌, ◌∷◌}
use mathlib.Core.Logic.{◌↔◌}
use mathlib.Core.Option.{Option, none, some}
use mathlib.Core.Path.{◌≡◌, refl}
use lib.Dec.{eqb, leb}
use lib.ListN.{length}
use borrow.Author.Tests.{eqb-true, leb-true}
use Rattle.rules.specs.Lists.{Each}
use Rattle.rules.specs.Reading.{choose}
use Rattle.rules.specs.Syntax.{Constraint, Term}
use Rattle.semantics.specs.Invariant.{ConstraintIn, Passes, Sat, Sound, TermIn}
use Rattle.semantics.specs.Logic.{AllProper, Assignment, Meets, value}
use Rattle.semantics.specs.Path.{ChoicePoint, Path, Taken, bound_to, cut, equal_taken, goes, keeping, leaves, take_constraint, take_equal}
use Rattle.semantics.specs.Review.{review, review_all}
use Rattle.semantics.specs.Steps.{Outcome, and_then, done, stop}
use Rattle.semantics.specs.Substitution.{Substitution}
use Rattle.semantics.specs.Unify.{unify_terms}
use Rattle.semantics.proofs.Basics.{by_choose, each_append}
use Rattle.semantics.proofs.ReviewLaws.{review_all_told, review_told}
use Rattle.semantics.proofs.Sound.{sound_constraint}
use Rattle.semantics.proofs.SubstitutionLaws.{sat_local}
use Rattle.semantics.proofs.TermLaws.{Agree, meets_local}
use Rattle.semantics.proofs.UnifyLaws.{Unifier, no_news, unify_none, unify_some}

-- an assignment of proper trees solves the bindings and constraints of a path
pub record Solves (bs : Substitution) (kept : List Constraint) (α : Assignment) : Type 0 where
  pub proper : AllProper α
  pub sat : Sat α bs
  pub meets : Each (Meets α) kept

-- the path p goes on as p', narrowed to the assignments with Q
pub record NarrowedTo (p : Path) (cs : List ChoicePoint) (Q : Assignment → Type 0) (p' : Path) (cs' : List ChoicePoint) : Type 0 where
  pub sound : Sound p'.bindings p'.kept p'.made
  pub same_made : p'.made ≡ p.made
  pub same_stack : p'.stack ≡ p.stack
  pub same_calls : p'.calls ≡ p.calls
  pub same_choices : cs' ≡ cs
  pub narrows : (α : Assignment) → Solves p'.bindings p'.kept α ↔ (Solves p.bindings p.kept α × Q α)

-- a goal that only asks for Q has been taken on p; where the path is left, no assignment that solves it has Q
abbrev pub Narrowed : Path → List ChoicePoint → (Assignment → Type 0) → Outcome Taken → Type 0
Narrowed p cs Q (stop why left) = Unit {0}
Narrowed p cs Q (done leaves left) = (α : Assignment) → Solves p.bindings p.kept α → Q α → ⊥
Narrowed p cs Q (done cut left) = ⊥
Narrowed p cs Q (done (goes p' cs') left) = NarrowedTo p cs Q p' cs'

module _ (p : Path) (cs : List ChoicePoint) (sound : Sound p.bindings p.kept p.made) where
  module _ (s t : Term) (s_in : TermIn p.made s) (t_in : TermIn p.made t) where
    abbrev Same : Assignment → Type 0
    Same α = value α s ≡ value α t

    equal_bound : (bs : Substitution) → Unifier p.made p.bindings s t bs → Each (Passes bs p.kept) p.kept → NarrowedTo p cs Same (bound_to p bs) cs
    equal_bound bs u passes = record {
      sound = record { good = u.good; scope = u.scope sound.scope s_in t_in; few_made = sound.few_made; few_kept = sound.few_kept; kept_in = sound.kept_in; passes = passes };
      same_made = refl;
      same_stack = refl;
      same_calls = refl;
      same_choices = refl;
      narrows = λ α. (
        λ h. let k = (u.alike α).0 h.sat in (record { proper = h.proper; sat = k.0; meets = h.meets }, k.1),
        λ (h, q). record { proper = h.proper; sat = (u.alike α).1 (h.sat, q); meets = h.meets },
      );
    }

    reviewed_narrowed : (bs : Substitution) → Unifier p.made p.bindings s t bs → (left : ℕ) (o : Outcome Bool) → review_all bs p.kept p.kept left ≡ o →
        Narrowed p cs Same (and_then o (λ broken l. choose broken (λ _. done leaves l) (λ _. done (goes (bound_to p bs) cs) l)))
    reviewed_narrowed bs u left (stop why l) e = tt
    reviewed_narrowed bs u left (done true l) e = λ α h q.
        review_all_told p.made sound.few_made bs u.good (u.scope sound.scope s_in t_in) p.kept p.kept sound.kept_in left l true e α ((u.alike α).1 (h.sat, q)) h.meets h.meets
    reviewed_narrowed bs u left (done false l) e =
        equal_bound bs u (review_all_told p.made sound.few_made bs u.good (u.scope sound.scope s_in t_in) p.kept p.kept sound.kept_in left l false e)

    unified_narrowed : (left : ℕ) (o : Outcome (Option Substitution)) → unify_terms p.bindings s t left ≡ o → Narrowed p cs Same (and_then o (λ r l. equal_taken p cs r l))
    unified_narrowed left (stop why l) e = tt
    unified_narrowed left (done none l) e = λ α h q. unify_none left p.bindings sound.good s t left l e α h.sat q
    unified_narrowed left (done (some bs) l) e =
        let u = unify_some p.made left p.bindings sound.good s t left bs l e in
        by_choose (Narrowed p cs Same) (eqb (length bs) (length p.bindings)) _ _
        (λ q. record {
          sound = sound;
          same_made = refl;
          same_stack = refl;
          same_calls = refl;
          same_choices = refl;
          narrows = λ α. (λ h. (h, no_news u (eqb-true (length bs) (length p.bindings) q) α h.sat), λ h. h.0);
        })
        (λ q. reviewed_narrowed bs u l (review_all bs p.kept p.kept l) refl)

    pub takes_equal : (left : ℕ) → Narrowed p cs Same (take_equal p cs s t left)
    takes_equal left = unified_narrowed left (unify_terms p.bindings s t left) refl

  module _ (c : Constraint) (c_in : ConstraintIn p.made c) where
    snoc_meets : (α : Assignment) → Each (Meets α) p.kept → Meets α c → Each (Meets α) (p.kept ++ (c ∷ []))
    snoc_meets α m q = (each_append (Meets α) p.kept (c ∷ [])).1 (m, (q, tt))

    kept_narrowed : suc (length p.kept) ≤ 512 → (left : ℕ) (o : Outcome Bool) → review p.bindings (p.kept ++ (c ∷ [])) c left ≡ o →
        Narrowed p cs (λ α. Meets α c) (and_then o (λ broken l. choose broken (λ _. done leaves l) (λ _. done (goes (keeping p c) cs) l)))
    kept_narrowed few left (stop why l) e = tt
    kept_narrowed few left (done true l) e = λ α h q.
        review_told p.made sound.few_made p.bindings sound.good sound.scope (p.kept ++ (c ∷ [])) c c_in left l true e α h.sat (snoc_meets α h.meets q) q
    kept_narrowed few left (done false l) e = record {
      sound = sound_constraint p.bindings p.kept p.made c sound few c_in (review_told p.made sound.few_made p.bindings sound.good sound.scope (p.kept ++ (c ∷ [])) c c_in left l false e);
      same_made = refl;
      same_stack = refl;
      same_calls = refl;
      same_choices = refl;
      narrows = λ α. (
        λ h. let k = (each_append (Meets α) p.kept (c ∷ [])).0 h.meets in (record { proper = h.proper; sat = h.sat; meets = k.0 }, k.1.0),
        λ (h, q). record { proper = h.proper; sat = h.sat; meets = snoc_meets α h.meets q },
      );
    }

    pub takes_constraint : (left : ℕ) → Narrowed p cs (λ α. Meets α c) (take_constraint p cs c left)
    takes_constraint left = by_choose (Narrowed p cs (λ α. Meets α c)) (leb (suc (length p.kept)) 512) _ _
        (λ q. kept_narrowed (leb-true (suc (length p.kept)) 512 q) left (review p.bindings (p.kept ++ (c ∷ [])) c left) refl)
        (λ q. tt)

-- to solve a path is a matter of the variables made
kept_local : (v : ℕ) (α β : Assignment) (cs : List Constraint) → Agree v α β → Each (ConstraintIn v) cs → Each (Meets α) cs → Each (Meets β) cs
kept_local v α β [] h i s = tt
kept_local v α β (c ∷ cs) h i s = (meets_local v α β c h i.0 s.0, kept_local v α β cs h i.1 s.1)

pub solves_local : (bs : Substitution) (kept : List Constraint) (made : ℕ) (α β : Assignment) → Sound bs kept made → Agree made α β → AllProper β → Solves bs kept α → Solves bs kept β
solves_local bs kept made α β s h proper k = record { proper = proper; sat = sat_local made α β bs h s.scope k.sat; meets = kept_local made α β kept h s.kept_in k.meets }
