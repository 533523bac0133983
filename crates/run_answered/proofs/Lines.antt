-- In a sound script the lines that ask a host for a call are the calls of its lines.
use Rattle.std.proofs.Common.{Bool, List, ap, arith, eqb-true, false, if◌then◌else◌, leb-true, length, refl}
use Rattle.std.proofs.Common.{sym, true, ℕ, ◌&&◌, ◌+◌, ◌==◌, ◌∙◌, ◌∷◌, ◌≡◌, ◌≤◌}
use Rattle.std.proofs.lemmas.Bool.{and_parts, eq-eqb, eqb-false, false≢true}
use Rattle.std.proofs.lemmas.List.{length-append}
use Rattle.std.proofs.lemmas.List.Sums.{sum_by-append, sum_by-cons}
use Rattle.std.specs.List.{list_all}
use Rattle.std.specs.Prelude.{[], cond, count_by, filter}
use Rattle.base_types.specs.declared.ids.HostId.{HostId}
use Rattle.base_types.specs.declared.ids.Node.{Node}
use Rattle.base_types.specs.declared.ids.Node.TheVariants.{Host, Server}
use Rattle.script_lines.specs.Asks.{call_lines, is_call, is_call_of, is_host}
use Rattle.script_lines.specs.Sound.{IsSound, is_setup_line, is_sound_deed, is_sound_line, same_node}
use Rattle.script_lines.specs.declared.script.Deed.{Deed}
use Rattle.script_lines.specs.declared.script.Deed.TheVariants.{Await, Call, Raise, Restart, Stop}
use Rattle.script_lines.specs.declared.script.Line.{Line}
use Rattle.script_lines.specs.declared.script.Script.{Script}
use Rattle.run_rules.specs.Steps.{is_node, lines_of}
use Rattle.run_due.specs.Begun.{call_in, calls_of}

call_one : (d : Deed) → cond (is_call d) 1 0 ≡ length (call_in d)
call_one (Call call) = refl
call_one (Raise flag) = refl
call_one (Await flag) = refl
call_one Stop = refl
call_one Restart = refl

same_either : (a b : ℕ) → (a == b) ≡ (b == a)
same_either a b = go (b == a) refl
  where
    go : (q : Bool) → (b == a) ≡ q → (a == b) ≡ (b == a)
    go true e = eq-eqb a b (sym (eqb-true b a e)) ∙ sym e
    go false e = other (a == b) refl
      where
        other : (q : Bool) → (a == b) ≡ q → (a == b) ≡ (b == a)
        other false f = f ∙ sym e
        other true f = absurd (eqb-false b a e (sym (eqb-true a b f)))

node_is : (host : HostId) (n : Node) → is_node (Host host) n ≡ is_host host.0 n
node_is host (Host other) = same_either host.0 other.0
node_is host (Server v) = refl

module _ (host : HostId) where
  abbrev own_lines : List Line → List Line
  own_lines xs = filter (λ (line : Line). is_node (Host host) line.node) xs

  -- of any lines
  counted : (xs : List Line) → count_by (is_call_of host.0) xs ≡ length (calls_of (own_lines xs))
  counted [] = refl
  counted (x ∷ xs) = go (is_host host.0 x.node) refl (counted xs)
    where
      now : (b : Bool) → is_host host.0 x.node ≡ b
          → length (calls_of (own_lines (x ∷ xs))) ≡ length (calls_of (if b then x ∷ own_lines xs else own_lines xs))
      now b e = ap (λ c. length (calls_of (if c then x ∷ own_lines xs else own_lines xs))) (node_is host x.node ∙ e)

      head : (b : Bool) → is_host host.0 x.node ≡ b
          → count_by (is_call_of host.0) (x ∷ xs) ≡ cond (b && is_call x.deed) 1 0 + count_by (is_call_of host.0) xs
      head b e =
          sum_by-cons (λ y. cond (is_call_of host.0 y) 1 0) x xs
          ∙ ap (λ c. cond (c && is_call x.deed) 1 0 + count_by (is_call_of host.0) xs) e

      go : (b : Bool) → is_host host.0 x.node ≡ b
          → count_by (is_call_of host.0) xs ≡ length (calls_of (own_lines xs))
          → count_by (is_call_of host.0) (x ∷ xs) ≡ length (calls_of (own_lines (x ∷ xs)))
      go true e rest =
          let one = call_one x.deed in
          let both = length-append (call_in x.deed) (calls_of (own_lines xs)) in
          let first = head true e in
          let last = now true e in
          omega (arith, one, both, first, last, rest)
      go false e rest =
          let first = head false e in
          let last = now false e in
          omega (arith, first, last, rest)

  -- of lines of which none is the host's, or each
  module _ (test : Line → Bool) where
    none_counted : ((x : Line) → test x ≡ true → is_host host.0 x.node ≡ false) → (xs : List Line)
        → list_all test xs ≡ true → count_by (is_call_of host.0) xs ≡ 0
    none_counted other [] all = refl
    none_counted other (x ∷ xs) all =
        let first : count_by (is_call_of host.0) (x ∷ xs) ≡ 0 + count_by (is_call_of host.0) xs =
        sum_by-cons (λ y. cond (is_call_of host.0 y) 1 0) x xs
        ∙ ap (λ c. cond (c && is_call x.deed) 1 0 + count_by (is_call_of host.0) xs) (other x (and_parts _ _ all).0) in
        let rest = none_counted other xs (and_parts _ _ all).1 in
        omega (arith, first, rest)

    all_own : ((x : Line) → test x ≡ true → is_host host.0 x.node ≡ true) → (xs : List Line) → list_all test xs ≡ true
        → own_lines xs ≡ xs
    all_own mine [] all = refl
    all_own mine (x ∷ xs) all =
        ap (λ c. if c then x ∷ own_lines xs else own_lines xs) (node_is host x.node ∙ mine x (and_parts _ _ all).0)
        ∙ ap (λ ys. x ∷ ys) (all_own mine xs (and_parts _ _ all).1)

-- the setup host's lines are those of the setup, and no other host's
setup_node : (n : Node) → same_node n (Host (record { 0 = 0 })) ≡ true → (h : ℕ) → is_host h n ≡ (0 == h)
setup_node (Host k) e h = ap (λ a. a == h) (eqb-true k.0 0 e)
setup_node (Server v) e h = absurd (false≢true e)

declared_node : (servers hosts : ℕ) (n : Node) (d : Deed) → is_sound_deed servers hosts n d ≡ true → is_host 0 n ≡ false
declared_node servers hosts (Server v) d e = refl
declared_node servers hosts (Host k) d e =
    let least = leb-true 1 k.0 (and_parts _ _ (and_parts _ _ e).0).0 in go (k.0 == 0) refl least
  where
    go : (b : Bool) → (k.0 == 0) ≡ b → 1 ≤ k.0 → (k.0 == 0) ≡ false
    go false q least = q
    go true q least = let zero = eqb-true k.0 0 q in absurd (omega (arith, zero, least))

pub lines_counted : (script : Script) → IsSound script → (host : HostId)
    → call_lines script host.0 ≡ length (calls_of (lines_of script (Host host)))
unfolding call_lines
lines_counted script sound host =
    sum_by-append (λ x. cond (is_call_of host.0 x) 1 0) script.setup script.lines ∙ go (host.0 == 0) refl
  where
    setup_is : (x : Line) → is_setup_line script.servers x ≡ true → is_host host.0 x.node ≡ (0 == host.0)
    setup_is x e = setup_node x.node (and_parts _ _ e).0 host.0

    go : (b : Bool) → (host.0 == 0) ≡ b
        → count_by (is_call_of host.0) script.setup + count_by (is_call_of host.0) script.lines
        ≡ length (calls_of (if b then script.setup else own_lines host script.lines))
    go true e =
        let zero = eqb-true host.0 0 e in
        let all = all_own host (is_setup_line script.servers)
        (λ x q. setup_is x q ∙ eq-eqb 0 host.0 (sym zero)) script.setup sound.setup in
        let first = counted host script.setup ∙ ap (λ xs. length (calls_of xs)) all in
        let rest = none_counted host (is_sound_line script.servers (length script.roster.hosts))
        (λ x q. ap (λ h. is_host h x.node) zero
        ∙ declared_node script.servers (length script.roster.hosts) x.node x.deed q) script.lines sound.lines in
        omega (arith, first, rest)
    go false e =
        let first = none_counted host (is_setup_line script.servers)
        (λ x q. setup_is x q ∙ (same_either 0 host.0 ∙ e)) script.setup sound.setup in
        let rest = counted host script.lines in
        omega (arith, first, rest)
