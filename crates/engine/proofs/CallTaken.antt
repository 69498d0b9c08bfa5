-- Taking a call, as the code does it: one law for each way in which `take_call` returns, and what it needs on the way.
use Prim.Native.Nat.{ℕ, suc, ◌+◌, ◌*◌, ◌≤◌, ◌<◌}
use mathlib.Core.Path.{◌≡◌, refl, sym, ap, subst, ◌∙◌}
use mathlib.Core.Bool.{true, false}
use mathlib.Core.Option.{some}
use mathlib.Core.List.{List, [], ◌∷◌, ◌++◌, append_assoc}
use native.Mathlib.Omega.{arith}
use lib.Dec.{ltb, leb}
use lib.ListN.{length, get_elem?}
use borrow.Author.Tests.{lt-ltb, le-ltb, le-leb, lt-leb}
use Rattle.rules.specs.Lists.{Each}
use Rattle.rules.specs.Syntax.{Term, call, Relation, Program}
use Rattle.rules.specs.Reading.{after}
use Rattle.rules.specs.Settings.{scratch_words}
use Rattle.semantics.specs.Substitution.{shift, Substitution, argument}
use Rattle.semantics.specs.Path.{Path, ChoicePoint, bound_to, bind_params, called, take_call}
use Rattle.semantics.specs.Invariant.{TermIn, TermsIn, RelationIn}
use Rattle.semantics.proofs.TermLaws.{shift_in}
use Rattle.engine.specs.Layout.{positions}
use Rattle.engine.specs.Reference.{pos_of, base_of, TaskAt}
use Rattle.engine.specs.Memory.{Registers, TableIn, Stored, cell}
use Rattle.engine.specs.Walk.{PartRead}
use Rattle.engine.specs.Take.{registers, GoalReady, TookAs, took_stopped, one_goal_more, RelationIs}
use Rattle.engine.specs.Call.{BindingParameters, ParametersBound}
use Rattle.engine.specs.declared.search.state.State.{State}
use Rattle.engine.specs.declared.search.state.Took.{Took}
use Rattle.engine.specs.declared.report.Bound.TheVariants.{Variables, Goals as GoalsBound}
use Rattle.engine.specs.declared.search.state.Way.TheVariants.{Cut, Goes}
use Rattle.engine.proofs.TookLaws.{took_goes, took_cut, took_at}
use Rattle.engine.proofs.ReferenceLaws.{terms_longer, pos_refer, base_refer}
use Rattle.engine.proofs.ClaimLaws.{stays, claim}
use Rattle.engine.proofs.StepLaws.{wait_one}
use Rattle.engine.proofs.TrailLaws.{apart_same}
use Rattle.engine.proofs.StoredLaws.{trailed, rebound}

-- parameters are new bindings
params_grow : (x base : ℕ) (ts : List Term) (bs : Substitution) → (new : Substitution) × (bind_params x base ts bs ≡ new ++ bs)
params_grow x base [] bs = ([], refl)
params_grow x base (t ∷ ts) bs =
    let b : ℕ × Term = (x, argument bs (shift base t)) in
    let ih = params_grow (suc x) base ts (b ∷ bs) in
    (ih.0 ++ (b ∷ []), ih.1 ∙ sym (append_assoc ih.0 (b ∷ []) bs))

-- variables are made and a call is counted, with nothing stored
abbrev make : Registers → ℕ → Registers
make r vars = record { head = r.head; trail = r.trail; variables = r.variables + vars; goals = r.goals; constraints = r.constraints; calls = r.calls + 1 }

abbrev make_path : Path → ℕ → Path
make_path p vars = record { bindings = p.bindings; made = p.made + vars; stack = p.stack; put = p.put; kept = p.kept; calls = suc p.calls }

makes : {P : Program} {ws s : List ℕ} {r : Registers} {n : ℕ} {p : Path} {cs : List ChoicePoint} (vars : ℕ) → r.variables + vars ≤ 2048 → Stored P ws s r n p cs → Stored P ws s (make r vars) n (make_path p vars) cs
makes {r = r} {p = p} vars le h =
    let m = h.path_in in
    claim (make r vars) (make_path p vars) (stays p (make_path p vars) refl refl (omega arith) (omega arith))
    (record { long = h.roomy.long; trail = h.roomy.trail; made = le; put = h.roomy.put; choices = h.roomy.choices; kept = h.roomy.kept })
    h.bindings_in h.kept_in
    (record { tasks = m.tasks; trail = m.trail; made = omega (arith, m.made); put = m.put; kept = m.kept; calls = omega (arith, m.calls) }) h

terms_made : (base v made : ℕ) → base + v ≤ made → (ts : List Term) → TermsIn v ts → Each (λ t. TermIn made (shift base t)) ts
terms_made base v made le [] h = tt
terms_made base v made le (t ∷ ts) h = (shift_in base v made t le h.0, terms_made base v made le ts h.1)

module _ {P : Program} {ws s : List ℕ} {st : State} {w : ℕ} {p : Path} {cs : List ChoicePoint} {base n : ℕ} {ts : List Term} (k : GoalReady P ws s st w p cs (base, call n ts)) where
  stored : Stored P ws s (registers st) st.choices p cs
  stored = k.taking.stored

  task : TaskAt ws w (base, call n ts)
  task = k.taking.task_at

  -- the relation that is called
  abbrev pub callee : Relation
  callee = k.task_in.2.relation

  pub is_callee : get_elem? P n ≡ some callee
  is_callee = k.task_in.2.is_there

  pub callee_few : (callee.vars ≤ 255) × (callee.params ≤ callee.vars)
  callee_few = let r : RelationIn P callee = k.program_in n callee is_callee in (r.few_vars, r.params_vars)

  long_args : pos_of w + 2 ≤ after ws (pos_of w)
  long_args = terms_longer ws 0 (pos_of w + 2) (after ws (pos_of w)) ts task.goal.2

  next_word : pos_of (w + 1) ≡ pos_of w + 1
  next_word = omega (arith, long_args, task.small)

  -- its number is the call's first word
  pub call_number : {b l m : ℕ} → PartRead ws (w + 1) b l m → m ≡ n
  call_number i = i.is_payload ∙ (rw next_word task.goal.1.1)

  pub call_listed : {b l m : ℕ} → PartRead ws (w + 1) b l m → (Q : Program) × (R : Relation) × TableIn ws s Q × (get_elem? Q m ≡ some R) × (scratch_words ≤ length s)
  call_listed i = (P, callee, stored.table, ap (get_elem? P) (call_number i) ∙ is_callee, stored.roomy.long)

  -- what the table says of it
  pub call_found : {b l m a v c : ℕ} → PartRead ws (w + 1) b l m → ((Q : Program) (R : Relation) → TableIn ws s Q → get_elem? Q m ≡ some R → RelationIs ws a v c R) → RelationIs ws a v c callee
  call_found i f = f P callee stored.table (ap (get_elem? P) (call_number i) ∙ is_callee)

  pub call_cut : {round : ℕ} → round ≤ st.calls → TookAs P ws s cs (take_call round P p cs base n ts st.steps) Cut st
  call_cut {round} le =
      let e : ltb p.calls round ≡ false = le-ltb p.calls round (omega (arith, stored.path_in.calls)) in
      took_cut stored (rw e refl)

  module _ {a v c : ℕ} (is : RelationIs ws a v c callee) where
    pub call_variables : {round : ℕ} {r : Took} (s' : List ℕ) → st.calls < round → 2048 < st.variables + v → r ≡ took_stopped Variables st → TookAs P ws s' cs (take_call round P p cs base n ts st.steps) r.way r.state
    call_variables {round} s' lt full q =
        let e : ltb p.calls round ≡ true = lt-ltb p.calls round (omega (arith, stored.path_in.calls)) in
        let f : leb (p.made + callee.vars) 2048 ≡ false = lt-leb (p.made + callee.vars) 2048 (omega (arith, stored.path_in.made, is.vars_is)) in
        took_at p q (rw (e, is_callee, f) refl)

    pub call_goals : {round : ℕ} {r : Took} (s' : List ℕ) → st.calls < round → st.variables + v ≤ 2048 → 1024 ≤ st.goals → r ≡ took_stopped GoalsBound st → TookAs P ws s' cs (take_call round P p cs base n ts st.steps) r.way r.state
    call_goals {round} s' lt fits full q =
        let e : ltb p.calls round ≡ true = lt-ltb p.calls round (omega (arith, stored.path_in.calls)) in
        let f : leb (p.made + callee.vars) 2048 ≡ true = le-leb (p.made + callee.vars) 2048 (omega (arith, stored.path_in.made, is.vars_is)) in
        let g : leb (suc p.put) 1024 ≡ false = lt-leb (suc p.put) 1024 (omega (arith, stored.path_in.put)) in
        took_at p q (rw (e, is_callee, f, g) refl)

    -- its arguments are passed
    pub call_passes : st.variables + v ≤ 2048 → BindingParameters ws s s base (after ws (pos_of w)) (bind_params p.made base ts p.bindings) st.variables st.trail (w + 2) a
    call_passes fits =
        let made_is : st.variables ≡ p.made = stored.path_in.made in
        let base_is : base_of w ≡ base = task.base in
        let few = callee_few in
        let many : length ts ≡ a = k.task_in.2.fits ∙ sym is.params_is in
        subst (λ x. BindingParameters ws s s base (after ws (pos_of w)) (bind_params p.made base ts p.bindings) x st.trail (w + 2) a) (sym made_is) (record {
          from = pos_of w + 2;
          is_w = omega (arith, base_is);
          args = ts;
          now_bound = p.bindings;
          kept = p.kept;
          leads = refl;
          many = many;
          terms = task.goal.2;
          inside = task.inside;
          short = k.short;
          low = omega (arith, task.below);
          is_n = stored.path_in.trail;
          sound = k.sound;
          in_range = terms_made base k.task_in.0 p.made k.task_in.1 ts k.task_in.2.terms_in;
          fits = omega (arith, is.vars_is, is.params_is, few.1);
          long = stored.roomy.long;
          bindings_in = stored.bindings_in;
          apart = apart_same s;
        })

    -- and its body waits
    pub call_body : st.variables + v ≤ 2048 → (c < positions) × (st.variables ≤ 2048)
    call_body fits = (omega (arith, is.small), omega arith)

    pub call_goes : {round : ℕ} {s' s'' : List ℕ} {trail : ℕ} {r : State} → st.calls < round → st.variables + v ≤ 2048 → st.goals < 1024
        → ParametersBound ws s s' (bind_params p.made base ts p.bindings) trail
        → r ≡ one_goal_more (record { head = st.head; trail = trail; variables = st.variables + v; goals = st.goals; constraints = st.constraints; calls = st.calls + 1; choices = st.choices; steps = st.steps })
        → s'' ≡ cell s' (st.goals + 1) (c + positions * st.variables) st.head
        → TookAs P ws s'' cs (take_call round P p cs base n ts st.steps) Goes r
    call_goes {round} {s'} {s''} {trail} {r} lt fits put-fits d is-r is-s =
        let m = stored.path_in in
        let made_is : st.variables ≡ p.made = m.made in
        let e : ltb p.calls round ≡ true = lt-ltb p.calls round (omega (arith, m.calls)) in
        let f : leb (p.made + callee.vars) 2048 ≡ true = le-leb (p.made + callee.vars) 2048 (omega (arith, is.vars_is)) in
        let g : leb (suc p.put) 1024 ≡ true = le-leb (suc p.put) 1024 (omega (arith, m.put)) in
        let bs : Substitution = bind_params p.made base ts p.bindings in
        let q = params_grow p.made base ts p.bindings in
        let h₁ : Stored P ws s' (trailed (registers st) (length bs)) st.choices (bound_to p bs) cs = rebound q.0 bs q.1 d.apart d.bindings_in stored in
        let h₂ : Stored P ws s' (trailed (registers st) trail) st.choices (bound_to p bs) cs = subst (λ z. Stored P ws s' (trailed (registers st) z) st.choices (bound_to p bs) cs) (sym d.is_n) h₁ in
        let low : (c < positions) × (st.variables ≤ 2048) = call_body fits in
        let c_low : c < positions = low.0 in
        let is_pos : pos_of (c + positions * st.variables) ≡ c = pos_refer c st.variables c_low in
        let is_base : base_of (c + positions * st.variables) ≡ st.variables = base_refer c st.variables c_low in
        let body : TaskAt ws (c + positions * st.variables) (p.made, callee.body) = record { base = is_base ∙ made_is; goal = rw is_pos is.body_at; inside = rw is_pos is.inside; small = rw is_pos is.small; below = omega (arith, low.1) } in
        let vars_is : callee.vars ≡ v = sym is.vars_is in
        let h₃ = wait_one p.made callee.body (c + positions * st.variables) put-fits body (makes callee.vars (omega (arith, vars_is)) h₂) in
        rw (is-r, is-s) (took_goes (subst (λ z. Stored P ws (cell s' (st.goals + 1) (c + positions * st.variables) st.head) (record { head = st.goals + 1; trail = trail; variables = st.variables + z; goals = st.goals + 1; constraints = st.constraints; calls = st.calls + 1 }) st.choices (called p base ts callee) cs) vars_is h₃) (rw (e, is_callee, f, g) refl))
