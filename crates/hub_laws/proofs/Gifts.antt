-- What a gift changes in the network, and what is then known as taken.
use Rattle.std.proofs.Common.{◌≡◌, ℕ, suc, ◌+◌, ◌≤◌, Bool, true, false, not, ◌&&◌, cond, List, [], ◌∷◌, ◌++◌, length}
use Rattle.std.proofs.Common.{map, Option, None, Some, is_some, nat_lt, refl, sym, ap, ◌∙◌, subst, arith}
use Rattle.std.specs.List.{count_by, position, prefix_len, remove}
use Rattle.std.specs.Option.{option_map, option_map_or}
use Rattle.std.proofs.lemmas.Bool.{ltb-true, ltb-false, lt-ltb, le-ltb}
use Rattle.std.proofs.lemmas.List.Sums.{sum_by-cons}
use Rattle.base_types.specs.declared.ids.Node.{Node}
use Rattle.message_types.specs.declared.message.Message.{Message as MessageOf}
use Rattle.script_lines.specs.Sound.{same_node}
use Rattle.run_rules.specs.Plans.{receiver}
use Rattle.run_rules.specs.declared.fate.Way.{Way}
use Rattle.run_rules.specs.declared.fate.Way.TheVariants.{Free, Delayed, Held}
use Rattle.hub_wire.specs.Networks.{Network, lapse_place, next_copy, without_copy, without_lapse}
use Rattle.hub_wire.specs.Packets.{any_free, may_arrive}
use Rattle.hub_wire.specs.declared.packet.Packet.{Packet}
use Rattle.hub_wire.proofs.Takes.{takes_first}
use Rattle.hub_board.specs.Hubs.{Hubbed, begins, flag_of, gift_for, given_of, may_begin, without}
use Rattle.hub_board.specs.declared.given.Gift.{Gift}
use Rattle.hub_board.specs.declared.given.Gift.TheVariants.{Message, Begun, Raised, Lapse}
use Rattle.hub_board.specs.declared.given.Given.{Given}
use Rattle.hub_board.specs.declared.given.Given.TheVariants.{Message as Came, Raised as WasRaised}
use Rattle.hub_laws.specs.Keeping.{lapse_in, message_in}
use Rattle.hub_laws.proofs.Nodes.{node_same}
use Rattle.hub_laws.proofs.Nets.{AreOut, Goes, IsOut, lapses, takes}
use Rattle.hub_laws.proofs.Rounds.{AllPass, is_to}

-- the place of the first element that passes, or the length
abbrev place : {X : Type 0} → (X → Bool) → List X → ℕ
place p xs = prefix_len (λ x. not (p x)) xs

abbrev at : {X : Type 0} → List X → ℕ → Option ℕ
at xs n = cond (nat_lt n (length xs)) (Some n) None

-- what is left of a list where the place of the first element that passes is this
abbrev left_at : {X : Type 0} → X → List X → ℕ → List X
left_at y ys n = option_map_or (λ i. remove (y ∷ ys) i) (at (y ∷ ys) n) (y ∷ ys)

left_later : {X : Type 0} (y : X) (ys : List X) (n : ℕ) (b : Bool) → nat_lt n (length ys) ≡ b
    → left_at y ys (suc n) ≡ y ∷ option_map_or (λ i. remove ys i) (cond b (Some n) None) ys
left_later y ys n true e =
    let lt = ltb-true n (length ys) e in
    ap (λ b. option_map_or (λ i. remove (y ∷ ys) i) (cond b (Some (suc n)) None) (y ∷ ys))
    (lt-ltb (suc n) (suc (length ys)) (omega (arith, lt)))
left_later y ys n false e =
    let le = ltb-false n (length ys) e in
    ap (λ b. option_map_or (λ i. remove (y ∷ ys) i) (cond b (Some (suc n)) None) (y ∷ ys))
    (le-ltb (suc n) (suc (length ys)) (omega (arith, le)))

place_behind : {X : Type 0} (p : X → Bool) (y : X) (ys : List X) → p y ≡ false
    → position p (y ∷ ys) ≡ at (y ∷ ys) (suc (place p ys))
place_behind p y ys fails =
    let more : 1 + place p ys ≡ suc (place p ys) = omega arith in
    ap (λ b. at (y ∷ ys) (cond (not b) (1 + place p ys) 0)) fails ∙ ap (at (y ∷ ys)) more

some_behind : {X : Type 0} (p : X → Bool) (y : X) (ys : List X) → p y ≡ false → is_some (position p (y ∷ ys)) ≡ true
    → is_some (position p ys) ≡ true
some_behind p y ys fails h = by_test (nat_lt (place p ys) (length ys)) refl
  where
    by_test : (b : Bool) → nat_lt (place p ys) (length ys) ≡ b → is_some (cond b (Some (place p ys)) None) ≡ true
    by_test true e = refl
    by_test false e =
        let le = ltb-false (place p ys) (length ys) e in
        let none : at (y ∷ ys) (suc (place p ys)) ≡ None =
        ap (λ b. cond b (Some (suc (place p ys))) None) (le-ltb (suc (place p ys)) (suc (length ys))
        (omega (arith, le))) in
        ap is_some (sym none) ∙ ap is_some (sym (place_behind p y ys fails)) ∙ h

-- a list round the element that is removed
record Split {X : Type 0} (p : X → Bool) (xs : List X) : Type 0 where
  earlier : List X
  one : X
  later : List X
  among : xs ≡ earlier ++ one ∷ later
  fits : p one ≡ true
  left : option_map_or (λ i. remove xs i) (position p xs) xs ≡ earlier ++ later

split : {X : Type 0} (p : X → Bool) (xs : List X) → is_some (position p xs) ≡ true → Split p xs
split p [] h = absurd (cc)
split p (y ∷ ys) h = by_test (p y) refl (split p ys)
  where
    by_test : (b : Bool) → p y ≡ b → (is_some (position p ys) ≡ true → Split p ys) → Split p (y ∷ ys)
    by_test true e again = record {
      earlier = [];
      one = y;
      later = ys;
      among = refl;
      fits = e;
      left = ap (λ b. option_map_or (λ i. remove (y ∷ ys) i) (at (y ∷ ys) (cond (not b) (1 + place p ys) 0)) (y ∷ ys)) e
          ∙ ap (λ b. option_map_or (λ i. remove (y ∷ ys) i) (cond b (Some 0) None) (y ∷ ys))
          (lt-ltb 0 (suc (length ys)) (omega arith));
    }
    by_test false e again =
        let i = again (some_behind p y ys e h) in
        record {
          earlier = y ∷ i.earlier;
          one = i.one;
          later = i.later;
          among = ap (λ l. y ∷ l) i.among;
          fits = i.fits;
          left = ap (λ o. option_map_or (λ k. remove (y ∷ ys) k) o (y ∷ ys)) (place_behind p y ys e)
              ∙ left_later y ys (place p ys) (nat_lt (place p ys) (length ys)) refl ∙ ap (λ l. y ∷ l) i.left;
        }

abbrev pub messages : List Packet → List MessageOf
messages ps = map (λ p. p.message) ps

abbrev pub lapses_to : Node → List Node → ℕ
lapses_to n lapsed = count_by (λ x. same_node x n) lapsed

-- what is known as taken, after a gift
pub record Gives (all now : Network) (node : Node) (given : Option Given) (taken : List Packet) (lapsed : List Node)
    : Type 0 where
  pub taken_then : List Packet
  pub lapsed_then : List Node
  pub goes : Goes all now taken_then lapsed_then
  pub out : AreOut taken_then
  pub came : messages taken_then ≡ message_in given ++ messages taken
  pub to : AllPass (is_to node) (message_in given)
  pub lapses : (n : Node) → cond (same_node node n) (lapse_in given) 0 + lapses_to n lapsed ≤ lapses_to n lapsed_then

either : {X : Type 0} (b : Bool) (x : X) → cond b x x ≡ x
either true x = refl
either false x = refl

-- nothing was taken
nothing : (all now : Network) (node : Node) (given : Option Given) (taken : List Packet) (lapsed : List Node)
    → Goes all now taken lapsed → AreOut taken → message_in given ≡ [] → lapse_in given ≡ 0
    → Gives all now node given taken lapsed
nothing all now node given taken lapsed g out none no_lapse = record {
  taken_then = taken;
  lapsed_then = lapsed;
  goes = g;
  out = out;
  came = ap (λ l. l ++ messages taken) (sym none);
  to = subst (AllPass (is_to node)) (sym none) tt;
  lapses = (λ n.
      let e : cond {A = ℕ} (same_node node n) (lapse_in given) 0 ≡ 0 =
      ap (λ k. cond (same_node node n) k 0) no_lapse ∙ either (same_node node n) 0 in omega arith);
}

raised_none : (o : Option (List ℕ)) → (message_in (option_map (λ flag. WasRaised flag) o) ≡ [])
    × (lapse_in (option_map (λ flag. WasRaised flag) o) ≡ 0)
raised_none None = (refl, refl)
raised_none (Some flag) = (refl, refl)

-- a lapse is given where one is due
is_due : (a b c d : Bool) → Some Lapse ≡ cond a (Some Message)
    (cond b (Some Begun) (cond c (Some Raised) (cond d (Some Lapse) None)))
    → d ≡ true
is_due true b c d e = absurd (cc)
is_due false true c d e = absurd (cc)
is_due false false true d e = absurd (cc)
is_due false false false true e = refl
is_due false false false false e = absurd (cc)

both_true : (a b : Bool) → (a && b) ≡ true → (a ≡ true) × (b ≡ true)
both_true true true e = (refl, refl)
both_true true false e = absurd (cc)
both_true false b e = absurd (cc)

out_way : (any : Bool) (steps step : ℕ) (way : Way) → may_arrive any steps step way ≡ true → IsOut way
out_way any steps step Free e = tt
out_way any steps step Delayed e = tt
out_way any steps step (Held flag) e = let clash : false ≡ true = e in absurd (cc)

module _ (hub : Hubbed) (node : Node) (all : Network) (taken : List Packet) (lapsed : List Node)
    (g : Goes all hub.net taken lapsed) (out : AreOut taken) where
  by_copy : (o : Option MessageOf) → next_copy hub.net node ≡ o
      → Gives all (without_copy node hub.net) node (given_of hub node (Some Message)) taken lapsed
  by_copy None e =
      let none = (takes_first hub.net node).1 e in
      nothing all (without_copy node hub.net) node (given_of hub node (Some Message)) taken lapsed
      (subst (λ net. Goes all net taken lapsed) (sym none.1) g) out
      (ap (λ o. message_in (option_map (λ m. Came m) o)) e)
      (ap (λ o. lapse_in (option_map (λ m. Came m) o)) e)
  by_copy (Some m) e =
      let t = (takes_first hub.net node).0 m e in
      let p = t.packet in
      let fits = both_true (same_node (receiver p.message) node)
      (may_arrive (any_free hub.net.packets) hub.net.steps p.step p.way) t.fits in
      let came : message_in (given_of hub node (Some Message)) ≡ m ∷ [] =
      ap (λ o. message_in (option_map (λ x. Came x) o)) e in
      let none : lapse_in (given_of hub node (Some Message)) ≡ 0 =
      ap (λ o. lapse_in (option_map (λ x. Came x) o)) e in
      record {
        taken_then = p ∷ taken;
        lapsed_then = lapsed;
        goes = takes all hub.net (without_copy node hub.net) taken t.earlier t.later p lapsed g t.among
            (ap (λ ps. record hub.net { packets = ps }) t.left);
        out = (out_way (any_free hub.net.packets) hub.net.steps p.step p.way fits.1, out);
        came = ap (λ x. x ∷ messages taken) t.own ∙ ap (λ l. l ++ messages taken) (sym came);
        to = subst (AllPass (is_to node)) (sym came)
            (ap (λ x. is_to node x) (sym t.own) ∙ fits.0, tt);
        lapses = (λ n.
            let z : cond {A = ℕ} (same_node node n) (lapse_in (given_of hub node (Some Message))) 0 ≡ 0 =
            ap (λ k. cond (same_node node n) k 0) none ∙ either (same_node node n) 0 in omega arith);
      }

  by_lapse : is_some (lapse_place hub.net node) ≡ true
      → Gives all (without_lapse node hub.net) node (given_of hub node (Some Lapse)) taken lapsed
  by_lapse h =
      let s = split (λ due. same_node due node) hub.net.due h in
      record {
        taken_then = taken;
        lapsed_then = s.one ∷ lapsed;
        goes = lapses all hub.net (without_lapse node hub.net) taken s.earlier s.later lapsed s.one g s.among
            (ap (λ ds. record hub.net { due = ds }) s.left);
        out = out;
        came = refl;
        to = tt;
        lapses = (λ n.
            let more = sum_by-cons (λ (x : Node). cond (same_node x n) 1 0) s.one lapsed in
            let same : cond {A = ℕ} (same_node s.one n) 1 0 ≡ cond {A = ℕ} (same_node node n) 1 0 =
            ap (λ x. cond (same_node x n) 1 0) (node_same s.one node s.fits) in
            omega arith);
      }

  pub gives : (gift : Option Gift) → gift ≡ gift_for hub node
      → Gives all (without gift node hub).net node (given_of hub node gift) taken lapsed
  gives None e = nothing all hub.net node None taken lapsed g out refl refl
  gives (Some Message) e = by_copy (next_copy hub.net node) refl
  gives (Some Begun) e = nothing all hub.net node (given_of hub node (Some Begun)) taken lapsed g out refl refl
  gives (Some Raised) e =
      let r = raised_none (flag_of hub node) in
      nothing all hub.net node (given_of hub node (Some Raised)) taken lapsed g out r.0 r.1
  gives (Some Lapse) e =
      by_lapse (is_due (is_some (next_copy hub.net node)) (may_begin node && begins hub node)
      (is_some (flag_of hub node)) (is_some (lapse_place hub.net node)) e)
