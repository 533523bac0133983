-- The flags that the board takes as raised were raised by steps.
use Rattle.std.proofs.Common.{◌≡◌, ℕ, zero, suc, ◌≤◌, Bool, true, false, ◌&&◌, cond, List, [], ◌∷◌, map, length, take}
use Rattle.std.proofs.Common.{drop, Option, None, Some, is_some, refl, sym, ap, ◌∙◌, subst, arith}
use Rattle.std.specs.Prelude.{slice_get}
use Rattle.std.specs.List.{cons_option, filter_map}
use Rattle.std.specs.Option.{option_and_then, option_map, option_map_or}
use Rattle.std.proofs.lemmas.List.{length-map}
use Rattle.base_types.specs.Lists.{changed_at}
use Rattle.base_types.specs.Name.{same_name}
use Rattle.base_types.specs.declared.ids.Node.{Node}
use Rattle.script_lines.specs.Sound.{same_node}
use Rattle.script_lines.specs.declared.script.Line.{Line}
use Rattle.script_lines.specs.declared.script.Script.{Script}
use Rattle.run_rules.specs.Past.{EachInTurn, In, appended}
use Rattle.run_rules.specs.Steps.{lines_gone, lines_of}
use Rattle.run_rules.specs.declared.step.Step.{Step}
use Rattle.hub_wire.specs.Networks.{lapse_place, next_copy}
use Rattle.hub_board.specs.Follows.{flag_for, flag_in, gone_in, mark_raised, place_of, raise_of, told, with_begun}
use Rattle.hub_board.specs.Follows.{with_gone, with_raised, with_told}
use Rattle.hub_board.specs.Hubs.{AreGiven, Hubbed, all_raised, begins, flag_of, flags_of, follow_at, gift_for}
use Rattle.hub_board.specs.Hubs.{may_begin, with_steps, with_turn, without}
use Rattle.hub_board.specs.declared.follow.Follow.{Follow}
use Rattle.hub_board.specs.declared.follow.Mark.{Mark}
use Rattle.hub_board.specs.declared.follow.Mark.TheVariants.{Plain, Raise, Await, Raised, Told}
use Rattle.hub_board.specs.declared.given.Gift.{Gift}
use Rattle.hub_board.specs.declared.given.Gift.TheVariants.{Message, Begun as BegunGift, Raised as RaisedGift, Lapse}
use Rattle.hub_board.specs.declared.given.Turn.{Turn}
use Rattle.hub_laws.proofs.Boards.{BoardRaises}
use Rattle.hub_laws.specs.Keeping.{Keeps, Round, round_of, rounds_of, steps_in}
use Rattle.hub_laws.proofs.Followed.{at_all, at_changed}
use Rattle.hub_laws.proofs.Lines.{flags_raised, gone_after, gone_few, raised_at}
use Rattle.hub_laws.proofs.Nodes.{node_same}
use Rattle.hub_laws.proofs.Planned.{each_now, each_on, known}

map_get : {A B : Type 0} (f : A → B) (xs : List A) (k : ℕ) → map f (take k xs) ≡ take k (map f xs)
map_get f [] zero = refl
map_get f [] (suc k) = refl
map_get f (x ∷ xs) zero = refl
map_get f (x ∷ xs) (suc k) = ap (λ l. f x ∷ l) (map_get f xs k)

map_rest : {A B : Type 0} (f : A → B) (xs : List A) (k : ℕ) → map f (drop k xs) ≡ drop k (map f xs)
map_rest f [] zero = refl
map_rest f [] (suc k) = refl
map_rest f (x ∷ xs) zero = refl
map_rest f (x ∷ xs) (suc k) = map_rest f xs k

-- what a test finds, from what it says of each
found : {A B : Type 0} (f : A → Option B) (xs : List A) → filter_map f xs ≡ filter_map (λ o. o) (map f xs)
found f [] = refl
found f (x ∷ xs) = ap (cons_option (f x)) (found f xs)

-- the same flags, where marks raise what lines do
same_flags : (marks : List Mark) (lines : List Line) (g h k : ℕ) → map raise_of marks ≡ map raised_at lines → g ≡ h
    → filter_map raise_of (take k (drop g marks)) ≡ filter_map raised_at (take k (drop h lines))
same_flags marks lines g h k e same =
    found raise_of (take k (drop g marks))
    ∙ ap (filter_map (λ o. o)) (map_get raise_of (drop g marks) k ∙ ap (take k)
    (map_rest raise_of marks g ∙ ap (drop g) e)
    ∙ ap (λ n. take k (drop n (map raised_at lines))) same ∙ ap (take k) (sym (map_rest raised_at lines h))
    ∙ sym (map_get raised_at (drop h lines) k))
    ∙ sym (found raised_at (take k (drop h lines)))

-- marks raise what they raised
raise_kept : (flag : List ℕ) (mark : Mark) → raise_of (mark_raised flag mark) ≡ raise_of mark
raise_kept flag Plain = refl
raise_kept flag (Raise name) = refl
raise_kept flag (Await name) = by_test (same_name name flag)
  where
    by_test : (b : Bool) → raise_of (cond b (Raised name) (Await name)) ≡ None
    by_test true = refl
    by_test false = refl
raise_kept flag (Raised name) = refl
raise_kept flag Told = refl

raises_kept : (flag : List ℕ) (marks : List Mark) → map raise_of (map (mark_raised flag) marks) ≡ map raise_of marks
raises_kept flag [] = refl
raises_kept flag (mark ∷ marks) = λ i. raise_kept flag mark i ∷ raises_kept flag marks i

told_mark : (mark : Mark) → is_some (flag_in mark) ≡ true → None ≡ raise_of mark
told_mark (Raised flag) e = refl
told_mark Plain e = absurd (cc)
told_mark (Raise flag) e = absurd (cc)
told_mark (Await flag) e = absurd (cc)
told_mark Told e = absurd (cc)

told_kept : (marks : List Mark) (i : ℕ) → is_some (option_and_then flag_in (slice_get marks i)) ≡ true
    → map raise_of (changed_at marks i told) ≡ map raise_of marks
told_kept [] i e = refl
told_kept (mark ∷ marks) zero e = ap (λ o. o ∷ map raise_of marks) (told_mark mark e)
told_kept (mark ∷ marks) (suc i) e = ap (λ l. raise_of mark ∷ l) (told_kept marks i e)

module _ (script : Script) where
  -- a node's lines are followed as they have gone
  pub record IsFollowed (n : Node) (own : List Step) (f : Follow) : Type 0 where
    pub gone : f.gone ≡ lines_gone own
    pub marks : map raise_of f.marks ≡ map raised_at (lines_of script n)

  abbrev pub Followed : Node → List Step → Option Follow → Type 0
  Followed n own None = Unit {0}
  Followed n own (Some f) = IsFollowed n own f

  -- a change that keeps both
  kept_by : (change : Follow → Follow) (n : Node) (own : List Step)
      → ((f : Follow) → IsFollowed n own f → IsFollowed n own (change f)) → (o : Option Follow) → Followed n own o
      → Followed n own (option_map change o)
  kept_by change n own keeps None h = tt
  kept_by change n own keeps (Some f) h = keeps f h

  raised_all : (n : Node) (own : List Step) (flags : List (List ℕ)) (follows : List Follow)
      → Followed n own (slice_get follows (place_of follows n))
      → Followed n own (slice_get (all_raised flags follows) (place_of (all_raised flags follows) n))
  raised_all n own [] follows h = h
  raised_all n own (flag ∷ flags) follows h =
      raised_all n own flags (map (with_raised flag) follows)
      (subst (Followed n own) (sym (at_all (with_raised flag) (λ f. refl) follows n))
      (kept_by (with_raised flag) n own
      (λ f k. record { gone = k.gone; marks = raises_kept flag f.marks ∙ k.marks })
      (slice_get follows (place_of follows n)) h))

  -- lines go
  gone_by : (n : Node) (own : List Step) (steps : List Step) → lines_gone (appended steps own) ≤ length
      (lines_of script n)
      → (o : Option Follow) → Followed n own o → Followed n (appended steps own)
      (option_map (with_gone (gone_in steps)) o)
  gone_by n own steps few None h = tt
  gone_by n own steps few (Some f) h = record {
    gone = (let more = gone_after steps own in
        let size = sym (length-map f.marks raise_of) ∙ ap length h.marks ∙ length-map (lines_of script n) raised_at in
        let is = h.gone in omega arith);
    marks = h.marks;
  }

  -- where steps were handed in
  handed : (hub : Hubbed) (r n : Node) (own : Node → List Step) (steps : List Step) (b : Bool) → same_node r n ≡ b
      → Followed n (own n) (follow_at hub n) → lines_gone (appended steps (own r)) ≤ length (lines_of script r)
      → Followed n (cond b (appended steps (own n)) (own n)) (follow_at (with_steps hub r steps) n)
  handed hub r n own steps b e h few =
      let fs = changed_at hub.follows (place_of hub.follows r) (with_gone (gone_in steps)) in
      raised_all n (cond b (appended steps (own n)) (own n)) (flags_of hub r steps) fs
      (subst (Followed n (cond b (appended steps (own n)) (own n)))
      (sym (at_changed (with_gone (gone_in steps)) (λ f. refl) r hub.follows n)) (by_test b e))
    where
      by_test : (b : Bool) → same_node r n ≡ b
          → Followed n (cond b (appended steps (own n)) (own n))
          (cond (same_node r n) (option_map (with_gone (gone_in steps)) (follow_at hub n)) (follow_at hub n))
      by_test true e =
          subst (λ t. Followed n (appended steps (own n)) (cond t
          (option_map (with_gone (gone_in steps)) (follow_at hub n)) (follow_at hub n)))
          (sym e)
          (gone_by n (own n) steps
          (subst (λ x. lines_gone (appended steps (own x)) ≤ length (lines_of script x)) (node_same r n e) few)
          (follow_at hub n) h)
      by_test false e =
          subst (λ t. Followed n (own n) (cond t (option_map (with_gone (gone_in steps)) (follow_at hub n))
          (follow_at hub n)))
          (sym e) h

  told_by : (n : Node) (own : List Step) (o : Option Follow) → is_some (option_and_then flag_for o) ≡ true
      → Followed n own o → Followed n own (option_map with_told o)
  told_by n own None e h = tt
  told_by n own (Some f) e h = record { gone = h.gone; marks = told_kept f.marks f.gone e ∙ h.marks }

  -- where something was given
  given : (hub : Hubbed) (r n : Node) (own : List Step) (gift : Option Gift) → gift ≡ gift_for hub r
      → Followed n own (follow_at hub n) → Followed n own (follow_at (without gift r hub) n)
  given hub r n own None e h = h
  given hub r n own (Some Message) e h = h
  given hub r n own (Some Lapse) e h = h
  given hub r n own (Some BegunGift) e h =
      subst (Followed n own) (sym (at_changed with_begun (λ f. refl) r hub.follows n)) (by_test (same_node r n))
    where
      by_test : (b : Bool) → Followed n own (cond b (option_map with_begun (follow_at hub n)) (follow_at hub n))
      by_test true = kept_by with_begun n own (λ f k. record { gone = k.gone; marks = k.marks }) (follow_at hub n) h
      by_test false = h
  given hub r n own (Some RaisedGift) e h =
      let there = is_raised (is_some (next_copy hub.net r)) (may_begin r && begins hub r) (is_some (flag_of hub r))
      (is_some (lapse_place hub.net r)) e in
      subst (Followed n own) (sym (at_changed with_told (λ f. refl) r hub.follows n))
      (by_test (same_node r n) refl there)
    where
      is_raised : (a b c d : Bool) → Some RaisedGift ≡ cond a (Some Message)
          (cond b (Some BegunGift) (cond c (Some RaisedGift) (cond d (Some Lapse) None)))
          → c ≡ true
      is_raised true b c d e = absurd (cc)
      is_raised false true c d e = absurd (cc)
      is_raised false false true d e = refl
      is_raised false false false true e = absurd (cc)
      is_raised false false false false e = absurd (cc)

      by_test : (b : Bool) → same_node r n ≡ b → is_some (flag_of hub r) ≡ true
          → Followed n own (cond b (option_map with_told (follow_at hub n)) (follow_at hub n))
      by_test true k there =
          told_by n own (follow_at hub n)
          (subst (λ x. is_some (option_and_then flag_for (follow_at hub x)) ≡ true) (node_same r n k) there) h
      by_test false k there = h

  -- flags of the lines of a follow
  flags_from : (r : Node) (own : List Step) (steps : List Step) (flag : List ℕ) (o : Option Follow) → Followed r own o
      → In flag (option_map_or (λ f. filter_map raise_of (take (gone_in steps) (drop f.gone f.marks))) o [])
      → In flag (filter_map raised_at (take (gone_in steps) (drop (lines_gone own) (lines_of script r))))
  flags_from r own steps flag None h i = absurd (i)
  flags_from r own steps flag (Some f) h i =
      subst (In flag) (same_flags f.marks (lines_of script r) f.gone (lines_gone own) (gone_in steps) h.marks h.gone) i

  pub record Follows (hub : Hubbed) (own : Node → List Round) : Type 0 where
    pub each : (n : Node) → Followed n (steps_in (own n)) (follow_at hub n)
    pub few : (n : Node) → lines_gone (steps_in (own n)) ≤ length (lines_of script n)

  few_then : (r n : Node) (own : Node → List Round) (round : Round) (b : Bool) → same_node r n ≡ b
      → lines_gone (steps_in (own n)) ≤ length (lines_of script n)
      → lines_gone (appended round.steps (steps_in (own r))) ≤ length (lines_of script r)
      → lines_gone (steps_in (cond b (round ∷ own n) (own n))) ≤ length (lines_of script n)
  few_then r n own round true e few more =
      subst (λ x. lines_gone (appended round.steps (steps_in (own x))) ≤ length (lines_of script x))
      (node_same r n e) more
  few_then r n own round false e few more = few

  by_own : (n : Node) (own : Node → List Round) (round : Round) (b : Bool) (o : Option Follow)
      → Followed n (cond b (appended round.steps (steps_in (own n))) (steps_in (own n))) o
      → Followed n (steps_in (cond b (round ∷ own n) (own n))) o
  by_own n own round true o h = h
  by_own n own round false o h = h

  -- a turn of a node that keeps to what it is given
  pub follows_then : (hub : Hubbed) (own : Node → List Round) (t : Turn) → Follows hub own
      → t.gift ≡ gift_for (with_steps hub t.node t.steps) t.node → Keeps script t.node (own t.node) (round_of hub t)
      → Follows (with_turn hub t) (known t.node (round_of hub t) own)
  follows_then hub own t h gift k =
      let r = t.node in
      let round = round_of hub t in
      let few = gone_few (lines_of script r) t.steps (steps_in (own r)) (h.few r) k.lines in
      record {
        each = (λ n. given (with_steps hub r t.steps) r n (steps_in (known r round own n)) t.gift gift
            (by_own n own round (same_node r n) (follow_at (with_steps hub r t.steps) n)
            (handed hub r n (λ x. steps_in (own x)) t.steps (same_node r n) refl (h.each n) few)));
        few = (λ n. few_then r n own round (same_node r n) refl (h.few n) few);
      }

  pub raises_from : (turns : List Turn) (hub : Hubbed) (past : List Step) (own : Node → List Round) → Follows hub own
      → AreGiven hub turns → ((n : Node) → EachInTurn (Keeps script n) (rounds_of hub n turns) (own n))
      → BoardRaises script hub turns past
  raises_from [] hub past own h gifts keeps = tt
  raises_from (t ∷ turns) hub past own h gifts keeps =
      let r = t.node in
      let round = round_of hub t in
      let k = each_now (Keeps script r) r round (rounds_of (with_turn hub t) r turns) (own r) (keeps r) in (
        (λ flag i. flags_raised script r flag t.steps (steps_in (own r)) past k.own k.lines
            (flags_from r (steps_in (own r)) t.steps flag (follow_at hub r) (h.each r) i)),
        raises_from turns (with_turn hub t) (appended t.steps past) (known r round own)
            (follows_then hub own t h gifts.0 k)
            gifts.1
            (λ n. each_on (Keeps script n) (same_node r n) round (rounds_of (with_turn hub t) n turns) (own n)
            (keeps n)),
      )
