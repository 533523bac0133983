-- Whether a host has stopped; and a host that has has no line left, where each stop is its host's last line.
use Rattle.std.proofs.Common.{Bool, List, None, Some, [], ap, arith, false, inl, inr, length, not, refl, subst, suc}
use Rattle.std.proofs.Common.{sym, true, zero, ℕ, ◌&&◌, ◌+◌, ◌==◌, ◌∙◌, ◌∷◌, ◌≡◌, ◌⊎◌}
use Rattle.std.proofs.lemmas.Bool.{and_parts, eq-eqb, eqb-true, false≢true}
use Rattle.std.specs.List.{list_all, list_any}
use Rattle.std.specs.Prelude.{filter, if◌then◌else◌, slice_get, ◌||◌}
use Rattle.base_types.specs.declared.ids.HostId.{HostId}
use Rattle.base_types.specs.declared.ids.Node.{Node}
use Rattle.base_types.specs.declared.ids.Node.TheVariants.{Host, Server}
use Rattle.script_lines.specs.Sound.{IsSound, is_of, is_setup_call, is_setup_line, is_stop, same_node, stops_last}
use Rattle.script_lines.specs.declared.script.Deed.{Deed}
use Rattle.script_lines.specs.declared.script.Deed.TheVariants.{Stop}
use Rattle.script_lines.specs.declared.script.Line.{Line}
use Rattle.script_lines.specs.declared.script.Script.{Script}
use Rattle.message_types.specs.declared.message.Body.{Body}
use Rattle.message_types.specs.declared.message.Body.TheVariants.{Down}
use Rattle.message_types.specs.declared.message.Message.{Message}
use Rattle.run_rules.specs.HostMay.{HostMay}
use Rattle.run_rules.specs.Messages.{HasStopped}
use Rattle.run_rules.specs.Past.{Always, In}
use Rattle.run_rules.specs.Steps.{goes_with, is_node, lines_gone, lines_of}
use Rattle.run_rules.specs.declared.step.Cause.{Cause}
use Rattle.run_rules.specs.declared.step.Step.{Step}

-- # Whether a host has stopped

is_down : Body → Bool
is_down Down = true
is_down _ = false

down_of : (b : Body) → is_down b ≡ true → b ≡ Down
unfolding is_down
down_of Down e = refl
down_of _ e = absurd (false≢true e)

of_down : (b : Body) → b ≡ Down → is_down b ≡ true
unfolding is_down
of_down b e = ap is_down e

abbrev SomeDown : List Message → Type 0
SomeDown ms = (m : Message) × In m ms × (m.body ≡ Down)

some_down : (ms : List Message) → SomeDown ms ⊎ (SomeDown ms → ⊥)
some_down [] = inr (λ k. (let i = k.1 in elim i [ ]))
some_down (x ∷ ms) = go (is_down x.body) refl (some_down ms)
  where
    go : (b : Bool) → is_down x.body ≡ b → SomeDown ms ⊎ (SomeDown ms → ⊥) → SomeDown (x ∷ ms) ⊎ (SomeDown (x ∷ ms) → ⊥)
    go true e rest = inl (x, inl refl, down_of x.body e)
    go false e (inl k) = inl (k.0, inr k.1, k.2)
    go false e (inr none) = inr (λ k. elim k.1 [
      | inl q ↦ false≢true (sym e ∙ of_down x.body (subst (λ (y : Message). y.body ≡ Down) q k.2))
      | inr i ↦ none (k.0, i, k.2)
    ])

pub has_stopped : (A : List Step) → HasStopped A ⊎ (HasStopped A → ⊥)
has_stopped [] = inr (λ k. (let o = k.3 in elim o [ ]))
has_stopped (s ∷ A) = elim (some_down s.sent) [
  | inl k ↦ inl (k.0.server, k.0.epoch, k.0.moves, inl (k.0, k.1, refl, refl, refl, k.2))
  | inr none ↦ elim (has_stopped A) [
    | inl k ↦ inl (k.0, k.1, k.2, inr k.3)
    | inr live ↦ inr (λ k. elim k.3 [
      | inl sends ↦ none (sends.0, sends.1, sends.5)
      | inr o ↦ live (k.0, k.1, k.2, o)
    ])
  ]
]

-- # A stop is the last line of its host

stop_is : (d : Deed) → d ≡ Stop → is_stop d ≡ true
stop_is d e = ap is_stop e

same_host : (host : HostId) (n : Node) → is_node (Host host) n ≡ true → n ≡ Host host
same_host host (Host k) e =
    let same : host.0 ≡ k.0 = eqb-true host.0 k.0 e in λ i. Host (record { 0 = sym same i })
same_host host (Server k) e = absurd (false≢true e)

itself : (host : HostId) (m n : Node) → m ≡ Host host → n ≡ Host host → same_node m n ≡ true
itself host m n e d =
    ap (λ (x : Node). same_node x n) e ∙ (ap (λ (x : Node). same_node (Host host) x) d ∙ eq-eqb host.0 host.0 refl)

module _ (host : HostId) where
  abbrev its : Line → Bool
  its line = is_node (Host host) line.node

  -- none of its lines is left, where none is its node's
  none_of : (node : Node) → node ≡ Host host → (xs : List Line) → list_any (is_of node) xs ≡ false
      → filter its xs ≡ []
  none_of node at [] e = refl
  none_of node at (x ∷ xs) e = go (its x) refl (is_of node x) refl (none_of node at xs)
    where
      go : (b : Bool) → its x ≡ b → (c : Bool) → is_of node x ≡ c
          → (list_any (is_of node) xs ≡ false → filter its xs ≡ [])
          → (if b then x ∷ filter its xs else filter its xs) ≡ []
      go true q c o rest =
          absurd (false≢true (sym e ∙ ap (λ (b : Bool). b || list_any (is_of node) xs)
          (itself host x.node node (same_host host x.node q) at)))
      go false q true o rest =
          absurd (false≢true (sym e ∙ ap (λ (b : Bool). b || list_any (is_of node) xs) o))
      go false q false o rest = rest (sym (ap (λ (b : Bool). b || list_any (is_of node) xs) o) ∙ e)

  stop_ends : (xs : List Line) → stops_last xs ≡ true → (k : ℕ) (line : Line) → slice_get (filter its xs) k ≡ Some line
      → line.deed ≡ Stop → length (filter its xs) ≡ suc k
  stop_ends [] stops k line e is = absurd (let q : None ≡ Some line = e in cc)
  stop_ends (x ∷ xs) stops k line e is = go (its x) refl k e (stop_ends xs parts.1)
    where
      parts : (not (is_stop x.deed && list_any (is_of x.node) xs) ≡ true) × (stops_last xs ≡ true)
      parts = and_parts (not (is_stop x.deed && list_any (is_of x.node) xs)) (stops_last xs) stops

      alone : is_stop x.deed ≡ true → list_any (is_of x.node) xs ≡ false
      alone stop = by (list_any (is_of x.node) xs) refl
        where
          by : (b : Bool) → list_any (is_of x.node) xs ≡ b → b ≡ false
          by false q = refl
          by true q =
              absurd (false≢true (sym (ap (λ (b : Bool). not (b && list_any (is_of x.node) xs)) stop
              ∙ ap not q) ∙ parts.0))

      go : (b : Bool) → its x ≡ b → (j : ℕ)
          → slice_get (if b then x ∷ filter its xs else filter its xs) j ≡ Some line
          → ((i : ℕ) (l : Line) → slice_get (filter its xs) i ≡ Some l → l.deed ≡ Stop
          → length (filter its xs) ≡ suc i)
          → length (if b then x ∷ filter its xs else filter its xs) ≡ suc j
      go false q j f rest = rest j line f is
      go true q zero f rest =
          let first : x ≡ line = (let z : Some x ≡ Some line = f in cc) in
          let none = none_of x.node (same_host host x.node q) xs
          (alone (stop_is x.deed (ap (λ (l : Line). l.deed) first ∙ is))) in
          ap (λ (ys : List Line). suc (length ys)) none
      go true q (suc j) f rest = ap suc (rest j line f is)

-- a line of the setup is no stop
setup_none : (servers : ℕ) (xs : List Line) → list_all (is_setup_line servers) xs ≡ true → (k : ℕ) (line : Line)
    → slice_get xs k ≡ Some line → line.deed ≡ Stop → ⊥
setup_none servers [] all k line e is = let q : None ≡ Some line = e in cc
setup_none servers (x ∷ xs) all zero line e is =
    let first : x ≡ line = (let z : Some x ≡ Some line = e in cc) in
    let a = and_parts (is_setup_line servers x) (list_all (is_setup_line servers) xs) all in
    let b = and_parts (same_node x.node (Host (record { 0 = 0 }))) (is_setup_call servers x.deed) a.0 in
    false≢true (sym (ap (is_setup_call servers) (ap (λ (l : Line). l.deed) first ∙ is)) ∙ b.1)
setup_none servers (x ∷ xs) all (suc k) line e is =
    setup_none servers xs (and_parts (is_setup_line servers x) (list_all (is_setup_line servers) xs) all).1 k line e is

module _ (script : Script) (sound : IsSound script) (host : HostId) where
  last_line : (k : ℕ) (line : Line) → slice_get (lines_of script (Host host)) k ≡ Some line → line.deed ≡ Stop
      → length (lines_of script (Host host)) ≡ suc k
  last_line k line e is = go (host.0 == 0) e
    where
      go : (b : Bool) → slice_get (if b then script.setup else filter (its host) script.lines) k ≡ Some line
          → length (if b then script.setup else filter (its host) script.lines) ≡ suc k
      go true f = absurd (setup_none script.servers script.setup sound.setup k line f is)
      go false f = stop_ends host script.lines sound.stops k line f is

  -- so a host that has stopped has no line left
  pub stopped_gone : (A : List Step) → Always (HostMay script host) A → HasStopped A
      → lines_gone A ≡ length (lines_of script (Host host))
  stopped_gone [] run x = elim x.3 [ ]
  stopped_gone (s ∷ A) run (v, e, n, inr old) = absurd (run.1.tokens.live (v, e, n, old))
  stopped_gone (s ∷ A) run (v, e, n, inl sends) =
      let k = run.1.lines.stops (v, e, n, sends) in
      let last = last_line (lines_gone A) k.1 k.3.0 k.4 in
      let one : lines_gone (s ∷ A) ≡ 1 + lines_gone A = ap (λ (c : Cause). goes_with c + lines_gone A) k.2 in
      omega (arith, last, one)
