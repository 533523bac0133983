-- The network does over a whole run what the script makes of the messages.
use Rattle.std.proofs.Common.{◌≡◌, ℕ, suc, ◌+◌, ◌-◌, Bool, true, false, not, ◌&&◌, ◌||◌, cond, List, [], ◌∷◌, ◌++◌}
use Rattle.std.proofs.Common.{map, length, is_some, unwrap_or, refl, sym, ap, subst, ◌∙◌, arith, append_assoc}
use Rattle.std.specs.List.{find, flat_map, count_by}
use Rattle.std.specs.Option.{option_map}
use Rattle.std.proofs.lemmas.List.Concat.{flat_map-append}
use Rattle.std.proofs.lemmas.List.Sums.{sum_by_push}
use Rattle.base_types.specs.declared.ids.Node.TheVariants.{Server}
use Rattle.base_types.specs.declared.ids.ServerId.{ServerId}
use Rattle.message_types.specs.declared.message.Message.{Message}
use Rattle.script_lines.specs.declared.script.PlanLine.{PlanLine}
use Rattle.script_lines.specs.declared.script.Script.{Script}
use Rattle.run_rules.specs.Plans.{Posting, all_left, copies_of, counts, fate_in_net, fate_of, is_for, left_after}
use Rattle.run_rules.specs.Plans.{planned_fate, planned_for as planned_by, post, posted, says_down, spent, ways_in}
use Rattle.run_rules.specs.Plans.{words_drawn}
use Rattle.run_rules.specs.declared.fate.Fate.{Fate}
use Rattle.run_rules.specs.declared.fate.Fate.TheVariants.{Once}
use Rattle.run_rules.specs.declared.fate.Left.{Left}
use Rattle.run_rules.specs.declared.fate.Way.{Way}
use Rattle.run_rules.specs.declared.fate.Way.TheVariants.{Free}
use Rattle.hub_wire.specs.Laws.{AlwaysPosted, all_sent, copy_of, lost_due, with_steps}
use Rattle.hub_wire.specs.Networks.{Network, due_by, fresh, next_fate, with_message, with_messages, with_step}
use Rattle.hub_wire.specs.Plans.{Lacking, is_own, passed, planned}
use Rattle.hub_wire.specs.declared.packet.Packet.{Packet}
use Rattle.hub_wire.proofs.Maps.{append_none, find_mapped, last_one, map_append, map_same, map_twice, mapped_twice}

-- a plan line after these messages
abbrev lacking_after : List Message → PlanLine → Lacking
lacking_after earlier line = record { line = line; lacking = line.n - count_by (counts line) earlier }

-- a plan line before all messages
abbrev lacking_first : PlanLine → Lacking
lacking_first line = record { line = line; lacking = line.n }

-- a network after these messages, with so much of the net left
record Stands (script : Script) (earlier : List Message) (left : Left) (net : Network) : Type 0 where
  nets : net.net ≡ script.net
  lines : net.lines ≡ map (lacking_after earlier) script.plan
  drawn : net.drawn ≡ words_drawn earlier
  rest : net.left ≡ left

own_same : (earlier : List Message) (m : Message) (line : PlanLine)
    → is_own m (lacking_after earlier line) ≡ is_for earlier m line
own_same earlier m line = ap (λ b. counts line m && b) (last_one line.n (count_by (counts line) earlier))

planned_same : (script : Script) (earlier : List Message) (m : Message)
    → planned (map (lacking_after earlier) script.plan) m ≡ planned_by script earlier m
planned_same script earlier m =
    ap (option_map (λ (l : Lacking). planned_fate l.line.deed l.line.flag))
    (find_mapped (is_own m) (is_for earlier m) (lacking_after earlier) (own_same earlier m) script.plan)
    ∙ mapped_twice (lacking_after earlier) (λ (l : Lacking). planned_fate l.line.deed l.line.flag)
    (find (is_for earlier m) script.plan)

-- a count with one more
one_more : {X : Type 0} (p : X → Bool) (xs : List X) (x : X)
    → count_by p (xs ++ x ∷ []) ≡ count_by p xs + cond (p x) 1 0
one_more p xs x = sum_by_push (λ y. cond (p y) 1 0) xs x

passed_same : (earlier : List Message) (m : Message) (line : PlanLine)
    → passed m (lacking_after earlier line) ≡ lacking_after (earlier ++ m ∷ []) line
passed_same earlier m line =
    by_test (counts line m) ∙ ap (λ c. record { line = line; lacking = line.n - c })
    (sym (one_more (counts line) earlier m))
  where
    by_test : (b : Bool) → (let l = lacking_after earlier line in cond b (record l { lacking = l.lacking - 1 }) l)
        ≡ record { line = line; lacking = line.n - (count_by (counts line) earlier + cond b 1 0) }
    by_test true =
        let e : line.n - count_by (counts line) earlier - 1 ≡ line.n - (count_by (counts line) earlier + 1) = omega
        arith in
        ap (λ c. record { line = line; lacking = c }) e
    by_test false =
        let e : line.n - count_by (counts line) earlier ≡ line.n - (count_by (counts line) earlier + 0) = omega arith in
        ap (λ c. record { line = line; lacking = c }) e

drawn_same : (b : Bool) (n : ℕ) → cond b n (n + 1) ≡ n + cond (not b) 1 0
drawn_same true n = omega arith
drawn_same false n = refl

module _ (script : Script) (earlier : List Message) (left : Left) (net : Network) (m : Message) where
  fates_same : Stands script earlier left net → next_fate net m ≡ fate_of script earlier m left
  fates_same s =
      ap (λ ls. cond (says_down m) (Once Free) (unwrap_or (planned ls m) (fate_in_net net.net net.drawn net.left)))
      s.lines
      ∙ ap (λ o. cond (says_down m) (Once Free) (unwrap_or o (fate_in_net net.net net.drawn net.left)))
      (planned_same script earlier m)
      ∙ ap (λ n. cond (says_down m) (Once Free) (unwrap_or (planned_by script earlier m)
      (fate_in_net n net.drawn net.left)))
      s.nets
      ∙ ap (λ n. cond (says_down m) (Once Free) (unwrap_or (planned_by script earlier m)
      (fate_in_net script.net n net.left)))
      s.drawn
      ∙ ap (λ l. cond (says_down m) (Once Free)
      (unwrap_or (planned_by script earlier m) (fate_in_net script.net (words_drawn earlier) l))) s.rest

  left_same : Stands script earlier left net → (with_message net m).left ≡ left_after script earlier m left
  left_same s =
      ap (λ ls. cond (says_down m || is_some (planned ls m)) net.left
      (spent (fate_in_net net.net net.drawn net.left) net.left)) s.lines
      ∙ ap (λ o. cond (says_down m || is_some o) net.left (spent (fate_in_net net.net net.drawn net.left) net.left))
      (planned_same script earlier m)
      ∙ ap (λ n. cond (says_down m || is_some (planned_by script earlier m)) net.left
      (spent (fate_in_net n net.drawn net.left) net.left)) s.nets
      ∙ ap (λ n. cond (says_down m || is_some (planned_by script earlier m)) net.left
      (spent (fate_in_net script.net n net.left) net.left)) s.drawn
      ∙ ap (λ l. cond (says_down m || is_some (planned_by script earlier m)) l
      (spent (fate_in_net script.net (words_drawn earlier) l) l)) s.rest

  stands_then : Stands script earlier left net
      → Stands script (earlier ++ m ∷ []) (left_after script earlier m left) (with_message net m)
  stands_then s = record {
    nets = s.nets;
    lines = ap (map (passed m)) s.lines ∙ map_twice (lacking_after earlier) (passed m) script.plan
        ∙ map_same (λ line. passed m (lacking_after earlier line)) (lacking_after (earlier ++ m ∷ []))
        (passed_same earlier m) script.plan;
    drawn = drawn_same (says_down m) net.drawn ∙ ap (λ n. n + cond (not (says_down m)) 1 0) s.drawn
        ∙ sym (one_more (λ (x : Message). not (says_down x)) earlier m);
    rest = left_same s;
  }

-- what is left of the net after these messages
abbrev left_through : Script → List Message → Left → List Message → Left
left_through script earlier left [] = left
left_through script earlier left (m ∷ ms) = left_through script (earlier ++ m ∷ [])
    (left_after script earlier m left) ms

post_one_more : (script : Script) (ms earlier : List Message) (left : Left) (m : Message)
    → post script earlier left (ms ++ m ∷ []) ≡ post script earlier left ms
    ++ record { message = m; fate = fate_of script (earlier ++ ms) m (left_through script earlier left ms) } ∷ []
post_one_more script [] earlier left m =
    ap (λ es. record { message = m; fate = fate_of script es m left } ∷ []) (sym (append_none earlier))
post_one_more script (x ∷ ms) earlier left m =
    let first : Posting = record { message = x; fate = fate_of script earlier x left } in
    let rest = left_after script earlier x left in
    let all = left_through script (earlier ++ x ∷ []) rest ms in
    ap (λ ps. first ∷ ps) (post_one_more script ms (earlier ++ x ∷ []) rest m)
    ∙ ap (λ es. first ∷ (post script (earlier ++ x ∷ []) rest ms
    ++ record { message = m; fate = fate_of script es m all } ∷ [])) (append_assoc earlier (x ∷ []) ms)

left_one_more : (script : Script) (ms earlier : List Message) (left : Left) (m : Message)
    → left_through script earlier left (ms ++ m ∷ [])
    ≡ left_after script (earlier ++ ms) m (left_through script earlier left ms)
left_one_more script [] earlier left m = ap (λ es. left_after script es m left) (sym (append_none earlier))
left_one_more script (x ∷ ms) earlier left m =
    let rest = left_after script earlier x left in
    left_one_more script ms (earlier ++ x ∷ []) rest m
    ∙ ap (λ es. left_after script es m (left_through script (earlier ++ x ∷ []) rest ms))
    (append_assoc earlier (x ∷ []) ms)

-- a network after these messages, which are all, and nothing was taken
record After (script : Script) (rooms : List ServerId) (all : List Message) (net : Network) : Type 0 where
  stands : Stands script all (left_through script [] (all_left script.net) all) net
  copies : map copy_of net.packets ≡ flat_map copies_of (posted script all)
  due : net.due ≡ map Server rooms ++ flat_map lost_due (posted script all)

flat_one_more : {X Y : Type 0} (f : X → List Y) (xs : List X) (x : X) → flat_map f (xs ++ x ∷ []) ≡ flat_map f xs ++ f x
flat_one_more f xs x = flat_map-append f xs (x ∷ []) ∙ ap (λ ys. flat_map f xs ++ ys) (append_none (f x))

after_message : (script : Script) (rooms : List ServerId) (all : List Message) (net : Network) (m : Message)
    → After script rooms all net → After script rooms (all ++ m ∷ []) (with_message net m)
after_message script rooms all net m a =
    let left = left_through script [] (all_left script.net) all in
    let last : Posting = record { message = m; fate = fate_of script all m left } in
    let fate = fates_same script all left net m a.stands in
    let more = post_one_more script all [] (all_left script.net) m in
    let packet : Way → Packet = λ way. record { message = m; way = way; step = net.steps } in
    let ways = ways_in (next_fate net m) in
    record {
      stands = subst (λ l. Stands script (all ++ m ∷ []) l (with_message net m))
          (sym (left_one_more script all [] (all_left script.net) m)) (stands_then script all left net m a.stands);
      copies = map_append copy_of net.packets (map packet ways)
          ∙ ap (λ cs. cs ++ map copy_of (map packet ways)) a.copies
          ∙ ap (λ cs. flat_map copies_of (posted script all) ++ cs) (map_twice packet copy_of ways)
          ∙ ap (λ (f : Fate). flat_map copies_of (posted script all) ++ map (λ way. copy_of (packet way))
          (ways_in f)) fate
          ∙ sym (flat_one_more copies_of (posted script all) last)
          ∙ ap (flat_map copies_of) (sym more);
      due = ap (λ ds. ds ++ due_by (next_fate net m) m) a.due
          ∙ ap (λ (f : Fate). (map Server rooms ++ flat_map lost_due (posted script all)) ++ due_by f m) fate
          ∙ append_assoc (map Server rooms) (flat_map lost_due (posted script all)) (lost_due last)
          ∙ ap (λ ds. map Server rooms ++ ds) (sym (flat_one_more lost_due (posted script all) last))
          ∙ ap (λ ps. map Server rooms ++ flat_map lost_due ps) (sym more);
    }

after_messages : (script : Script) (rooms : List ServerId) (ms all : List Message) (net : Network)
    → After script rooms all net
    → After script rooms (all ++ ms) (with_messages net ms) × ((with_messages net ms).steps ≡ net.steps)
after_messages script rooms [] all net a =
    (subst (λ es. After script rooms es net) (sym (append_none all)) a, refl)
after_messages script rooms (m ∷ ms) all net a =
    let rest = after_messages script rooms ms (all ++ m ∷ []) (with_message net m)
    (after_message script rooms all net m a) in (
      subst (λ es. After script rooms es (with_messages (with_message net m) ms)) (append_assoc all (m ∷ []) ms)
          rest.0,
      rest.1,
    )

after_step : (script : Script) (rooms : List ServerId) (all sent : List Message) (net : Network) → After script rooms
    all net
    → After script rooms (all ++ sent) (with_step net sent) × ((with_step net sent).steps ≡ net.steps + 1)
after_step script rooms all sent net a =
    after_messages script rooms sent all (record net { steps = net.steps + 1 })
    (record {
      stands = record { nets = a.stands.nets; lines = a.stands.lines; drawn = a.stands.drawn; rest = a.stands.rest };
      copies = a.copies;
      due = a.due;
    })

after_steps : (script : Script) (rooms : List ServerId) (steps : List (List Message)) (all : List Message)
    (net : Network)
    → After script rooms all net → After script rooms (all ++ all_sent steps) (with_steps net steps)
    × ((with_steps net steps).steps ≡ net.steps + length steps)
after_steps script rooms [] all net a = (
  subst (λ es. After script rooms es net) (sym (append_none all)) a,
  (let e : net.steps ≡ net.steps + 0 = omega arith in e),
)
after_steps script rooms (sent ∷ steps) all net a =
    let one = after_step script rooms all sent net a in
    let rest = after_steps script rooms steps (all ++ sent) (with_step net sent) one.0 in (
      subst (λ es. After script rooms es (with_steps (with_step net sent) steps))
          (append_assoc all sent (all_sent steps)) rest.0,
      rest.1 ∙ ap (λ n. n + length steps) one.1
          ∙ (let e : net.steps + 1 + length steps ≡ net.steps + suc (length steps) = omega arith in e),
    )

first_after : (script : Script) (rooms : List ServerId) → After script rooms [] (fresh script rooms)
first_after script rooms = record {
  stands = record {
    nets = refl;
    lines = map_same lacking_first (lacking_after [])
        (λ line. let e : line.n ≡ line.n - 0 = omega arith in ap (λ c. record { line = line; lacking = c }) e)
        script.plan;
    drawn = refl;
    rest = refl;
  };
  copies = refl;
  due = sym (append_none (map Server rooms));
}

pub always_posted : AlwaysPosted
always_posted script rooms steps =
    let a = after_steps script rooms steps [] (fresh script rooms) (first_after script rooms) in
    record {
      copies = a.0.copies;
      due = a.0.due;
      count = a.1 ∙ (let e : 0 + length steps ≡ length steps = omega arith in e);
    }
