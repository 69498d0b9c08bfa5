-- The loops over a query's parameters: one law for each way in which the code returns or goes on.
use Prim.Native.Nat.{ℕ, suc, ◌+◌, ◌-◌, ◌<◌, ◌≤◌}
use mathlib.Core.Path.{◌≡◌, refl, sym, ap, subst, ◌∙◌}
use mathlib.Core.Bool.{true}
use mathlib.Core.List.{List, [], ◌∷◌, ◌++◌, append_assoc, append-nil, map}
use native.Mathlib.Omega.{arith}
use Rattle.std.specs.Prelude.{Ok, Err, Some, None}
use Rattle.rules.specs.Syntax.{var}
use Rattle.rules.specs.Written.{term_words, terms_words}
use Rattle.semantics.specs.Substitution.{Substitution, resolve}
use Rattle.semantics.specs.Answer.{appear, appear_all, reify, vars_in, parameters, query_terms, names_of}
use Rattle.engine.specs.Walk.{Binds}
use Rattle.engine.specs.Names.{Named}
use Rattle.engine.specs.Term.{Room, Puts, Laid, Missing, Placed, all_laid, some_missing}
use Rattle.engine.specs.Look.{LookedThroughAs, ThroughAs}
use Rattle.engine.specs.Query.{Query, query_words}
use Rattle.engine.specs.declared.steps.Stopped.{Stopped}
use Rattle.engine.proofs.TrailLaws.{fresh_few}
use Rattle.engine.proofs.FrameLaws.{bindings_same}
use Rattle.engine.proofs.LookLaws.{Looking, looking_end, looking_stops, looking_on}
use Rattle.engine.proofs.NameLaws.{named_trans}
use Rattle.engine.proofs.TermLaws.{room_same, laid_none, laid_then, missing_then, missing_more, laid_of, missing_of}

-- the parameters that are left
parameters_next : (x n : ℕ) → x < n → parameters x (n - x) ≡ var x ∷ parameters (x + 1) (n - (x + 1))
parameters_next x n l =
    let e : n - x ≡ suc (n - (x + 1)) = omega arith in
    let f : suc x ≡ x + 1 = omega arith in
    ap (parameters x) e ∙ ap (λ i. var x ∷ parameters i (n - (x + 1))) f

parameters_over : (x n : ℕ) → n ≤ x → parameters x (n - x) ≡ []
parameters_over x n l = let e : n - x ≡ 0 = omega arith in ap (parameters x) e

-- looking: what is left to look at
abbrev pub LookingFrom : Substitution → ℕ → ℕ → ℕ → ℕ → Type 0
LookingFrom bs n steps x left = Looking bs (parameters 0 n) steps (parameters x (n - x)) left

module _ {bs : Substitution} {n steps x left : ℕ} (g : LookingFrom bs n steps x left) where
  pub from_end : n ≤ x → ThroughAs bs (parameters 0 n) steps (Ok left)
  from_end l = looking_end g (parameters_over x n l)

  module _ (l : x < n) where
    pub from_next : (rest : ℕ) → LookedThroughAs bs (var x) left (Ok rest) → LookingFrom bs n steps (x + 1) rest
    from_next rest h = looking_on g (var x) (parameters (x + 1) (n - (x + 1))) (parameters_next x n l) rest h

    pub from_stops : (s : Stopped) → LookedThroughAs bs (var x) left (Err s) → ThroughAs bs (parameters 0 n) steps (Err s)
    from_stops s h = looking_stops g (var x) (parameters (x + 1) (n - (x + 1))) (parameters_next x n l) s h

-- naming: what is left to name
pub record NamingAll (ws s₀ s : List ℕ) (bs : Substitution) (n x top : ℕ) : Type 0 where
  pub names : List ℕ
  pub named : Named s₀ s top names
  pub binds : Binds ws s bs
  pub is : appear_all names (query_terms bs x (n - x)) ≡ names_of bs n

pub binds_named : {ws s s' : List ℕ} {bs : Substitution} {top : ℕ} {names : List ℕ} → Named s s' top names → Binds ws s bs → Binds ws s' bs
binds_named {ws} {s} {s'} {bs} m b = record {
  short = b.short;
  long = omega (arith, b.long, m.long);
  bindings_in = bindings_same ws s s' bs (λ i lo hi. m.below i (omega arith)) (λ i lo hi. m.below i (omega (arith, fresh_few bs b.bindings_in.fresh))) b.bindings_in;
  good = b.good;
}

module _ {ws s₀ s : List ℕ} {bs : Substitution} {n x top : ℕ} (g : NamingAll ws s₀ s bs n x top) where
  pub naming_all_next : {s' : List ℕ} {top' : ℕ} → x < n → Named s s' top' (appear g.names (resolve bs (var x))) → NamingAll ws s₀ s' bs n (x + 1) top'
  naming_all_next l m = record {
    names = appear g.names (resolve bs (var x));
    named = named_trans g.named m;
    binds = binds_named m g.binds;
    is = ap (λ ts. appear_all g.names (map (resolve bs) ts)) (sym (parameters_next x n l)) ∙ g.is;
  }

-- one of them is put next
pub query_puts : {ws s o₀ o : List ℕ} {start place end x n : ℕ} {v names : List ℕ} {bs : Substitution} → Room o₀ end → Query ws s n bs names → Laid o₀ o start end true v place → x < n → Puts s o place end names (vars_in names (resolve bs (var x)))
query_puts {x = x} r q d l = record { from = d.fits; room = room_same d.touched.long r; given = q.given; known = q.known x l }

-- putting: what is put already, and what is left
pub record PuttingAll (o₀ o : List ℕ) (bs : Substitution) (names : List ℕ) (n start end x place : ℕ) : Type 0 where
  pub put : List ℕ
  pub laid : Laid o₀ o start end true put place
  pub is : put ++ query_words bs names x (n - x) ≡ query_words bs names 0 n

pub putting_all_start : (o : List ℕ) (bs : Substitution) (names : List ℕ) (n start end : ℕ) → start ≤ end → PuttingAll o o bs names n start end 0 start
putting_all_start o bs names n start end l =
    let e : n - 0 ≡ n = omega arith in
    record { put = []; laid = laid_none o start end true l; is = ap (query_words bs names 0) e }

module _ {o₀ o : List ℕ} {bs : Substitution} {names : List ℕ} {n start end x place : ℕ} (g : PuttingAll o₀ o bs names n start end x place) where
  pub putting_all_end : n ≤ x → Placed o₀ o start end true (query_words bs names 0 n) (Some place)
  unfolding terms_words
  putting_all_end l =
      let e : g.put ≡ query_words bs names 0 n = sym (append-nil g.put) ∙ ap (λ ts. g.put ++ terms_words (map (reify names) (map (resolve bs) ts))) (sym (parameters_over x n l)) ∙ g.is in
      all_laid (subst (λ v. Laid o₀ o start end true v place) e g.laid)

  module _ (l : x < n) where
    now_words : g.put ++ (term_words (reify names (resolve bs (var x))) ++ query_words bs names (x + 1) (n - (x + 1))) ≡ query_words bs names 0 n
    unfolding terms_words
    now_words = ap (λ ts. g.put ++ terms_words (map (reify names) (map (resolve bs) ts))) (sym (parameters_next x n l)) ∙ g.is

    pub putting_all_next : {o' : List ℕ} {next : ℕ} → Placed o o' place end true (term_words (reify names (resolve bs (var x)))) (Some next) → PuttingAll o₀ o' bs names n start end (x + 1) next
    putting_all_next p = record {
      put = g.put ++ term_words (reify names (resolve bs (var x)));
      laid = laid_then g.laid (laid_of p refl);
      is = append_assoc g.put (term_words (reify names (resolve bs (var x)))) (query_words bs names (x + 1) (n - (x + 1))) ∙ now_words;
    }

    pub putting_all_missed : {o' : List ℕ} → Placed o o' place end true (term_words (reify names (resolve bs (var x)))) None → Placed o₀ o' start end true (query_words bs names 0 n) None
    putting_all_missed {o'} p = some_missing (subst (Missing o₀ o' start end true) now_words (missing_then g.laid (missing_more (query_words bs names (x + 1) (n - (x + 1))) (missing_of p refl))))
