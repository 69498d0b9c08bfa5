-- Words put one after the other: one law for each way in which the code returns or goes on.
use Prim.Native.Nat.{ℕ, ◌+◌, ◌%◌, ◌-◌, ◌<◌, ◌≤◌}
use mathlib.Core.Path.{◌≡◌, refl, sym, ap, subst, ◌∙◌}
use mathlib.Core.Bool.{Bool, true, false, true≢false}
use mathlib.Core.List.{List, [], ◌∷◌, ◌++◌, append_assoc}
use native.Mathlib.Omega.{arith}
use lib.ListN.{length, length-append}
use Rattle.word.specs.Word.{word}
use Rattle.rules.specs.Inner.{Spells}
use Rattle.rules.proofs.Spelled.{stands_at as Spells_at, stands_append as spells_append, stands_split as spells_split, term_some}
use Rattle.rules.specs.Syntax.{Term, var}
use Rattle.rules.specs.Written.{part, term_words}
use Rattle.semantics.specs.Answer.{index, reify, vars_in}
use Rattle.semantics.specs.Unify.{member}
use Rattle.semantics.proofs.Basics.{clash, and_true}
use Rattle.semantics.proofs.Names.{index_less}
use Rattle.engine.specs.Reference.{at}
use Rattle.engine.specs.Walk.{Resolves, Shaped}
use Rattle.engine.specs.Names.{Names}
use Rattle.engine.specs.Term.{Room, Puts, Touched, WordPut, Laid, Missing, Placed, all_laid, some_missing}
use Rattle.engine.specs.declared.terms.walk.Shape.{Shape}
use Rattle.engine.specs.declared.terms.walk.Shape.TheVariants.{Open, Atom as Leaf, Pair}
use Rattle.std.specs.Prelude.{Option, Some, None}
use Rattle.std.specs.Bool.{then_some}
use Rattle.engine.proofs.NameLaws.{name_member, name_number, names_few}
use Rattle.engine.proofs.NamingLaws.{FollowedAs, told_open, told_leaf, Halves, halved}

-- touched parts
pub untouched : (o : List ℕ) (from to : ℕ) → Touched o o from to
untouched o from to = record { below = λ i l. refl; above = λ i l. refl; long = refl }

-- as a larger part
pub touched_wide : {o o' : List ℕ} {a b : ℕ} (from to : ℕ) → from ≤ a → b ≤ to → Touched o o' a b → Touched o o' from to
touched_wide from to p q h = record { below = λ i l. h.below i (omega arith); above = λ i l. h.above i (omega arith); long = h.long }

-- the same part twice
pub touched_twice : {o o₁ o₂ : List ℕ} {from to : ℕ} → Touched o o₁ from to → Touched o₁ o₂ from to → Touched o o₂ from to
touched_twice h i = record { below = λ k l. i.below k l ∙ h.below k l; above = λ k l. i.above k l ∙ h.above k l; long = i.long ∙ h.long }

-- two parts, within one
pub touched_then : {o o₁ o₂ : List ℕ} (a b c d from to : ℕ) → from ≤ a → b ≤ to → from ≤ c → d ≤ to → Touched o o₁ a b → Touched o₁ o₂ c d → Touched o o₂ from to
touched_then a b c d from to p q r s h i = record {
  below = λ k l. i.below k (omega arith) ∙ h.below k (omega arith);
  above = λ k l. i.above k (omega arith) ∙ h.above k (omega arith);
  long = i.long ∙ h.long;
}

-- words stay where nothing is touched
pub spells_same : (o o' : List ℕ) (place : ℕ) (xs : List ℕ) → ((i : ℕ) → place ≤ i → i < place + length xs → at o' i ≡ at o i) → Spells o place xs → Spells o' place xs
unfolding Spells
spells_same o o' place [] e h = tt
spells_same o o' place (x ∷ xs) e h = (e place (omega arith) (omega arith) ∙ h.0, spells_same o o' (place + 1) xs (λ i l k. e i (omega arith) (omega arith)) h.1)

-- one word
pub last_put : {o o' : List ℕ} {place end w : ℕ} {write : Bool} (r : Bool) → WordPut o o' place w write r → place < end → Placed o o' place end write (w ∷ []) (then_some r (place + 1))
unfolding Spells
last_put true h room = all_laid (record { is = refl; fits = omega arith; words = (h.yes refl, tt); touched = h.touched; read_only = h.read_only })
last_put {place = place} {end = end} false h room = some_missing (record {
  no_room = λ q. absurd (true≢false (sym q ∙ (h.no refl).0));
  differs = λ q l s. (h.no refl).1 s.0;
  touched = touched_wide place end (omega arith) (omega arith) h.touched;
  read_only = h.read_only;
})

-- nothing yet
pub laid_none : (o : List ℕ) (start end : ℕ) (write : Bool) → start ≤ end → Laid o o start end write [] start
unfolding Spells
laid_none o start end write l = record { is = omega arith; fits = l; words = tt; touched = untouched o start start; read_only = λ _. refl }

-- words after words
module _ {o o₁ o₂ : List ℕ} {start mid end : ℕ} {write : Bool} {u v : List ℕ} (h : Laid o o₁ start end write u mid) where
  pub laid_then : {e : ℕ} → Laid o₁ o₂ mid end write v e → Laid o o₂ start end write (u ++ v) e
  laid_then {e} i =
      let a : mid ≡ start + length u = h.is in
      let b : e ≡ mid + length v = i.is in
      let n : length (u ++ v) ≡ length u + length v = length-append u v in
      record {
        is = omega arith;
        fits = i.fits;
        words = spells_append o₂ start u v (spells_same o₁ o₂ start u (λ k p q. i.touched.below k (omega arith)) h.words) (Spells_at o₂ mid (start + length u) v a i.words);
        touched = touched_then start mid mid e start e (omega arith) (omega arith) (omega arith) (omega arith) h.touched i.touched;
        read_only = λ q. i.read_only q ∙ h.read_only q;
      }

  pub missing_then : Missing o₁ o₂ mid end write v → Missing o o₂ start end write (u ++ v)
  missing_then i =
      let a : mid ≡ start + length u = h.is in
      let f : mid ≤ end = h.fits in
      let n : length (u ++ v) ≡ length u + length v = length-append u v in
      record {
        no_room = λ q. omega (arith, i.no_room q);
        differs = λ q l s. i.differs q (omega arith) (Spells_at o₁ (start + length u) mid v (sym a) (subst (λ x. Spells x (start + length u) v) (sym (h.read_only q)) (spells_split o start u v s).1));
        touched = touched_then start mid mid end start end (omega arith) (omega arith) (omega arith) (omega arith) h.touched i.touched;
        read_only = λ q. i.read_only q ∙ h.read_only q;
      }

  pub placed_then : {r : Option ℕ} → Placed o₁ o₂ mid end write v r → Placed o o₂ start end write (u ++ v) r
  placed_then (all_laid i) = all_laid (laid_then i)
  placed_then (some_missing i) = some_missing (missing_then i)

-- what is missing of the first words is missing of more
pub missing_more : {o o₁ : List ℕ} {start end : ℕ} {write : Bool} {u : List ℕ} (v : List ℕ) → Missing o o₁ start end write u → Missing o o₁ start end write (u ++ v)
missing_more {o} {o₁} {start} {end} {write} {u} v h =
    let n : length (u ++ v) ≡ length u + length v = length-append u v in
    record {
      no_room = λ k. omega (arith, h.no_room k);
      differs = λ k l s. h.differs k (omega arith) (spells_split o start u v s).0;
      touched = h.touched;
      read_only = h.read_only;
    }

-- what is missing of the rest is missing of the whole
pub missed_part : {o o₁ : List ℕ} {place end w : ℕ} {write : Bool} {v : List ℕ} → Missing o o₁ (place + 1) end write v → Missing o o₁ place end write (w ∷ v)
unfolding Spells
missed_part {o} {o₁} {place} {end} h = record {
  no_room = λ k. omega (arith, h.no_room k);
  differs = λ k l s. h.differs k (omega arith) s.1;
  touched = touched_wide place end (omega arith) (omega arith) h.touched;
  read_only = h.read_only;
}

-- no room for even one word
pub missing_end : (o : List ℕ) (place end : ℕ) (write : Bool) (v : List ℕ) → end ≤ place → 0 < length v → Missing o o place end write v
missing_end o place end write v l n = record { no_room = λ _. omega arith; differs = λ _ m s. omega arith; touched = untouched o place end; read_only = λ _. refl }

pub room_same : {o o' : List ℕ} {end : ℕ} → length o' ≡ length o → Room o end → Room o' end
room_same e r = record { inside = omega (arith, r.inside, e); short = r.short }

-- what is put next: at another place, or behind words that are laid
pub puts_at : {s o o' : List ℕ} {start start' end : ℕ} {names : List ℕ} {a b : Bool} → Puts s o start end names a → length o' ≡ length o → start' ≤ end → b ≡ true → Puts s o' start' end names b
puts_at g e l k = record { from = l; room = room_same e g.room; given = g.given; known = k }

pub puts_behind : {s o o' : List ℕ} {start next end : ℕ} {names v : List ℕ} {write a b : Bool} → Puts s o start end names a → Laid o o' start end write v next → b ≡ true → Puts s o' next end names b
puts_behind g d k = puts_at g d.touched.long d.fits k

pub laid_room : {o o' : List ℕ} {start next end : ℕ} {v : List ℕ} {write : Bool} → Room o end → Laid o o' start end write v next → Room o' next
laid_room r d = record { inside = omega (arith, r.inside, d.fits, d.touched.long); short = omega (arith, r.short, d.fits) }

-- by cases, where the answer is known
pub laid_of : {o o' : List ℕ} {start end e : ℕ} {write : Bool} {v : List ℕ} {r : Option ℕ} → Placed o o' start end write v r → r ≡ Some e → Laid o o' start end write v e
laid_of {o} {o'} {start} {end} {e} {write} {v} (all_laid {e = k} h) q = let z : k ≡ e = cc in subst (Laid o o' start end write v) z h
laid_of (some_missing h) q = clash (cc)

pub missing_of : {o o' : List ℕ} {start end : ℕ} {write : Bool} {v : List ℕ} {r : Option ℕ} → Placed o o' start end write v r → r ≡ None → Missing o o' start end write v
missing_of (all_laid h) q = clash (cc)
missing_of (some_missing h) q = h

-- a term: what is put already, and what is left
pub record Putting (ws s o₀ o : List ℕ) (w start place end : ℕ) (write : Bool) (names goal : List ℕ) : Type 0 where
  pub term : Term
  pub here : Resolves ws s w term
  pub known : vars_in names term ≡ true
  pub put : List ℕ
  pub laid : Laid o₀ o start end write put place
  pub is : put ++ term_words (reify names term) ≡ goal

pub putting_start : {ws s o : List ℕ} {w start end : ℕ} {names : List ℕ} (write : Bool) (t : Term) → Resolves ws s w t → Puts s o start end names (vars_in names t) → Putting ws s o o w start start end write names (term_words (reify names t))
putting_start {o = o} {start = start} {end = end} write t h q = record { term = t; here = h; known = q.known; put = []; laid = laid_none o start end write q.from; is = refl }

module _ {ws s o₀ o : List ℕ} {w start place end : ℕ} {write : Bool} {names goal : List ℕ} (g : Putting ws s o₀ o w start place end write names goal) where
  finish : {o' : List ℕ} {r : Option ℕ} → Placed o o' place end write (term_words (reify names g.term)) r → Placed o₀ o' start end write goal r
  finish {o'} {r} p = subst (λ v. Placed o₀ o' start end write v r) g.is (placed_then g.laid p)

  pub putting_full : end ≤ place → Placed o₀ o start end write goal None
  putting_full l = finish (some_missing (missing_end o place end write (term_words (reify names g.term)) l (term_some (reify names g.term))))

  module _ {r : Shape} (f : FollowedAs ws s w r) where
    pub putting_low : {x : ℕ} → r ≡ Open x → x < 2048
    putting_low e = (told_open g.term f e g.here).1

    pub puts_open : {x : ℕ} {a : Bool} → Puts s o₀ start end names a → r ≡ Open x → Puts s o place end names (member x names)
    puts_open q e = puts_behind q g.laid (subst (λ t. vars_in names t ≡ true) (told_open g.term f e g.here).0 g.known)

    pub putting_open : {x : ℕ} {o' : List ℕ} {q : Option ℕ} → r ≡ Open x → Placed o o' place end write (term_words (var (index x names))) q → Placed o₀ o' start end write goal q
    putting_open {x} {o'} {q} e p = finish (subst (λ t. Placed o o' place end write (term_words (reify names t)) q) (sym (told_open g.term f e g.here).0) p)

    pub putting_leaf : {bits : ℕ} {o' : List ℕ} {q : Option ℕ} → r ≡ Leaf bits → Placed o o' place end write (bits ∷ []) q → Placed o₀ o' start end write goal q
    unfolding term_words Shaped
    putting_leaf {bits} {o'} {q} e p =
        let d = told_leaf g.term f e g.here in
        finish (subst (λ t. Placed o o' place end write (term_words (reify names t)) q) (sym d.1) (subst (λ k. Placed o o' place end write (k ∷ []) q) d.2 p))

    pub putting_pair : {a b : ℕ} → r ≡ Pair a b → Halves ws s w a b g.term
    putting_pair e = halved g.term f e g.here

  -- a pair: its first part is put, then its own word in front, then the second part is next
  module _ {a b : ℕ} (p : Halves ws s w a b g.term) where
    parts_known : (vars_in names p.first ≡ true) × (vars_in names p.second ≡ true)
    parts_known = and_true (vars_in names p.first) (vars_in names p.second) (subst (λ t. vars_in names t ≡ true) p.is g.known)

    pub puts_first : {a : Bool} → Puts s o₀ start end names a → place < end → Puts s o (place + 1) end names (vars_in names p.first)
    puts_first q l = puts_at q g.laid.touched.long (omega arith) parts_known.0

    pair_words : term_words (reify names g.term) ≡ part 4 (term_words (reify names p.first)) ++ term_words (reify names p.second)
    unfolding term_words
    pair_words = ap (λ t. term_words (reify names t)) p.is

    putting_short : {o' : List ℕ} → Missing o o' place end write (part 4 (term_words (reify names p.first))) → Placed o₀ o' start end write goal None
    putting_short {o'} h = finish (subst (λ v. Placed o o' place end write v None) (sym pair_words) (some_missing (missing_more (term_words (reify names p.second)) h)))

    pub putting_missed : {o' : List ℕ} {q : Option ℕ} → Placed o o' (place + 1) end write (term_words (reify names p.first)) q → q ≡ None → Placed o₀ o' start end write goal None
    putting_missed h e = putting_short (missed_part (missing_of h e))

    module _ {o₂ : List ℕ} {q : Option ℕ} (h : Placed o o₂ place end write (part 4 (term_words (reify names p.first))) q) where
      pub putting_no : q ≡ None → Placed o₀ o₂ start end write goal None
      putting_no e = putting_short (missing_of h e)

      pub putting_next : {next : ℕ} → q ≡ Some next → Putting ws s o₀ o₂ b start next end write names goal
      putting_next e = record {
        term = p.second;
        here = p.second_here;
        known = parts_known.1;
        put = g.put ++ part 4 (term_words (reify names p.first));
        laid = laid_then g.laid (laid_of h e);
        is = append_assoc g.put _ _ ∙ ap (λ v. g.put ++ v) (sym pair_words) ∙ g.is;
      }

-- a part: its word is put last, in front
pub head_put : (kind : ℕ) {o₁ o₂ : List ℕ} {start next bits : ℕ} {write : Bool} (r : Bool) → next < 268435456 → WordPut o₁ o₂ start bits write r → bits ≡ word kind ((next - start - 1) % 268435456)
    → (o : List ℕ) (end : ℕ) (v : List ℕ) → Laid o o₁ (start + 1) end write v next → Placed o o₂ start end write (part kind v) (then_some r next)
unfolding Spells
head_put kind {o₁} {o₂} {start} {next} {bits} {write} r short back is_bits o end v h = go r (subst (λ k. WordPut o₁ o₂ start k write r) head_word back)
  where
    behind : next ≡ start + 1 + length v
    behind = h.is

    head_word : bits ≡ word kind (length v)
    head_word = let m : (next - start - 1) % 268435456 ≡ length v = omega arith in is_bits ∙ ap (word kind) m

    go : (r : Bool) → WordPut o₁ o₂ start (word kind (length v)) write r → Placed o o₂ start end write (part kind v) (then_some r next)
    go true p = all_laid (record {
      is = omega (arith, behind);
      fits = h.fits;
      words = (p.yes refl, spells_same o₁ o₂ (start + 1) v (λ k l m. p.touched.above k (omega arith)) h.words);
      touched = touched_then (start + 1) next start (start + 1) start next (omega arith) (omega arith) (omega arith) (omega (arith, behind)) h.touched p.touched;
      read_only = λ k. p.read_only k ∙ h.read_only k;
    })
    go false p =
        let f : next ≤ end = h.fits in
        some_missing (record {
          no_room = λ k. absurd (true≢false (sym k ∙ (p.no refl).0));
          differs = λ k l s. (p.no refl).1 (subst (λ x. at x start ≡ word kind (length v)) (sym (h.read_only k)) s.0);
          touched = touched_then (start + 1) next start (start + 1) start end (omega arith) (omega arith) (omega arith) (omega (arith, behind)) h.touched p.touched;
          read_only = λ k. p.read_only k ∙ h.read_only k;
        })

pub one_full : {o : List ℕ} {place end w : ℕ} {write : Bool} → end ≤ place → Placed o o place end write (w ∷ []) None
one_full {o} {place} {end} {w} {write} l = some_missing (missing_end o place end write (w ∷ []) l (omega arith))

-- a variable that has a name
module _ {s : List ℕ} {top x : ℕ} {names : List ℕ} (low : x < 2048) (n : Names s top names) (m : member x names ≡ true) where
  pub variable_number : at s (4096 + x) % 4096 ≡ index x names + 1
  variable_number = name_number n x low (name_member n x low m)

  pub variable_put : {o o' : List ℕ} {place end bits : ℕ} {write : Bool} {q : Option ℕ} → bits ≡ word 0 ((at s (4096 + x) % 4096 - 1) % 268435456) → Placed o o' place end write (bits ∷ []) q → Placed o o' place end write (term_words (var (index x names))) q
  unfolding term_words
  variable_put {o} {o'} {place} {end} {bits} {write} {q} b p =
      let k : at s (4096 + x) % 4096 ≡ index x names + 1 = variable_number in
      let l : index x names < length names = index_less x names m in
      let f : length names ≤ 2048 = names_few names n.distinct in
      let z : bits ≡ word 0 (index x names) = omega arith in
      subst (λ k. Placed o o' place end write (k ∷ []) q) z p
