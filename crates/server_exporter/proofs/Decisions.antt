-- The decisions of a step, one after the other: the rules allow each on what was decided before it.
use Rattle.std.proofs.Common.{◌≡◌, ℕ, false, true, List, [], ◌∷◌, ◌++◌}
use Rattle.std.proofs.Common.{inl, inr, refl, sym, ◌∙◌, ap, subst}
use Rattle.std.specs.List.{list_all, list_any}
use Rattle.std.proofs.lemmas.Bool.{and_from, and_parts}
use Rattle.base_types.specs.declared.ids.HostId.{HostId}
use Rattle.base_types.specs.declared.ids.ServerId.{ServerId}
use Rattle.tree_answers.specs.declared.tree.Tree.{Tree}
use Rattle.tree_calls.specs.declared.reply.Reply.{Reply}
use Rattle.token_types.specs.declared.token.Token.{Token}
use Rattle.message_types.specs.declared.asking.Change.{Change as ChangeOf}
use Rattle.message_types.specs.declared.message.Body.TheVariants.{Change, Done}
use Rattle.message_types.specs.declared.message.Message.{Message}
use Rattle.message_types.specs.declared.telling.Bring.{Bring}
use Rattle.message_types.specs.declared.telling.Done.{Done as DoneOf}
use Rattle.run_rules.specs.Doings.{Doing, IsDurable, Issues, StayStamp, TookNow, after_cause, deciding}
use Rattle.run_rules.specs.Doings.{sending}
use Rattle.run_rules.specs.Doings.Doing.{MakesWant, Sent, WritesDown}
use Rattle.run_rules.specs.Kept.{filesets_through}
use Rattle.run_rules.specs.Past.{EachInTurn, In, appended}
use Rattle.run_rules.specs.ServerDecides.{DecidedSo, IsAnew, IsWrittenSo, MayDecide, MayDecideAll, is_decision}
use Rattle.run_rules.specs.ServerDecides.DecidedSo.{IsRefusedByTable, MeetsPinned, TakesEffect}
use Rattle.run_rules.specs.ServerTokens.{ServerTokens}
use Rattle.run_rules.specs.Wants.{Decides, IsQueued, body_of, needs_for}
use Rattle.run_rules.specs.declared.applied.Applied.{Applied}
use Rattle.run_rules.specs.declared.applied.Applied.TheVariants.{Done as IsDone, IsDown, Moves, Replied, Stored}
use Rattle.run_rules.specs.declared.applied.Applied.TheVariants.{Wants as IsWanted}
use Rattle.run_rules.specs.declared.applied.Request.{Request}
use Rattle.run_rules.specs.declared.applied.Request.TheVariants.{Change as Changes, Fetch as Asks}
use Rattle.run_rules.specs.declared.applied.Wanted.{Wanted}
use Rattle.run_rules.specs.declared.applied.Written.{Written}
use Rattle.run_rules.specs.declared.step.Cause.{Cause}
use Rattle.run_rules.specs.declared.step.Step.{Step}
use Rattle.server_tables.specs.Standing.{Stands}
use Rattle.server_tables.specs.declared.tables.Tables.{Tables}
use Rattle.server_tables.proofs.Asking.{makes_may}
use Rattle.server_tables.proofs.Drafting.{AreBare, SameReady, bares_ready, decide_ready, decided_one}
use Rattle.server_tables.proofs.Drafting.{grant_ready}
use Rattle.server_tables.proofs.Drafting.{refuse_ready}
use Rattle.server_tables.proofs.Early.{write_tokens, written_so}
use Rattle.server_tables.proofs.Greeting.{in_parts}
use Rattle.server_tables.proofs.Making.{deciding_both, decides_more, kept_both, one_more}
use Rattle.server_decides.specs.Drafts.{word}
use Rattle.server_decides.specs.Draft.{Draft}
use Rattle.server_decides.specs.Writing.{done_of, written_of}
use Rattle.run_tokens.specs.Unmoved.{is_move}
use Rattle.run_tokens.proofs.TokenRun.{decide_none}
use Rattle.server_exporter.proofs.Making.{as_sent, words_back}

-- # Words that bring nothing, and decide nothing that waits

module _ (server : ServerId) (decided : List Doing) where
  -- no word of these brings a token, or decides a want that waits
  pub record AreMute (sent : List Message) : Type 0 where
    pub brings : (m : Message) → In m sent → (t : Token) (k : StayStamp) → Issues (as_sent m) t k → ⊥
    pub decides : (m : Message) → In m sent → (w : Wanted) → IsQueued decided w
        → Decides (as_sent m) w.host w.request → ⊥

  bare_each : (before sent : List Message) → AreMute sent → ((m : Message) → In m before → In m before)
      → AreBare (appended (sending before) decided) (sending sent)
  bare_each before [] mute h = tt
  bare_each before (m ∷ ms) mute h = (
    record {
      word = (m.host, m.epoch, m.moves, m.body, refl);
      brings = mute.brings m (inl refl);
      decides = λ w u. mute.decides m (inl refl) w (words_back before decided w u);
    },
    subst (λ l. AreBare l (sending ms)) (one_end before m)
        (bare_each (before ++ m ∷ []) ms (record {
          brings = λ n i. mute.brings n (inr i);
          decides = λ n i. mute.decides n (inr i);
        }) (λ n i. i)),
  )
    where
      one_end : (ns : List Message) (n : Message)
          → appended (sending (ns ++ n ∷ [])) decided ≡ as_sent n ∷ appended (sending ns) decided
      one_end ns n = by ns decided
        where
          by : (ns : List Message) (l : List Doing)
              → appended (sending (ns ++ n ∷ [])) l ≡ as_sent n ∷ appended (sending ns) l
          by [] l = refl
          by (o ∷ ns) l = by ns (as_sent o ∷ l)

  -- so the same can be decided before them and after them
  pub mute_ready : (sent : List Message) → AreMute sent → SameReady server (appended (sending sent) decided) decided
  mute_ready sent mute = bares_ready server decided (sending sent) (bare_each [] sent mute (λ m i. i))

-- # Decisions

pub decided_ready : (server : ServerId) (p q : List Doing) → SameReady server p q → (tree : Tree) (w : Wanted)
    (c : ChangeOf) (reply : Reply) → DecidedSo server tree p w c reply → DecidedSo server tree q w c reply
decided_ready server p q s tree w c reply (IsRefusedByTable r on e) = IsRefusedByTable r on e
decided_ready server p q s tree w c reply (MeetsPinned a o f e) = MeetsPinned a o (refuse_ready server p q s w f) e
decided_ready server p q s tree w c reply (TakesEffect h o g e) = TakesEffect h o (grant_ready server p q s w g) e

module _ (server : ServerId) (cause : Cause) (tree : Tree) (past : List Doing) where
  abbrev begun : List Doing
  begun = after_cause cause past

  abbrev pub decided_by : Draft → List Doing
  decided_by d = appended (deciding d.applied) begun

  abbrev pub said_by : Draft → List Doing
  said_by d = appended (sending d.sent) (decided_by d)

  -- What was decided so far. `base` is what the cause applied, and `more` what was decided then.
  pub record IsDeciding (base more : List Applied) (x : Tables) (d : Draft) : Type 0 where
    pub server_is : x.server ≡ server
    pub applied : d.applied ≡ base ++ more
    pub admitted : d.admitted ≡ []
    pub stands : Stands (said_by d) x
    pub mute : AreMute server (decided_by d) d.sent
    pub none : deciding base ≡ []
    pub all : list_all is_decision more ≡ true
    pub writes : EachInTurn (ServerTokens server) (deciding d.applied) begun
    pub may : (s : Step) → s.cause ≡ cause
        → MayDecideAll server (filesets_through cause base tree) past begun s more

  -- what applies nothing but decisions moves nothing
  pub moves_none : (base more : List Applied) → deciding base ≡ [] → list_all is_decision more ≡ true
      → list_any is_move (base ++ more) ≡ false
  moves_none [] more none all = decide_none more all
  moves_none (IsWanted w ∷ xs) more none all = absurd (cc)
  moves_none (IsDone v ∷ xs) more none all = absurd (cc)
  moves_none (Moves move ∷ xs) more none all = absurd (cc)
  moves_none (Replied answer ∷ xs) more none all = moves_none xs more none all
  moves_none (Stored host fid spans length ∷ xs) more none all = moves_none xs more none all
  moves_none (IsDown host ∷ xs) more none all = moves_none xs more none all

  pub all_end : (more : List Applied) (x : Applied) → list_all is_decision more ≡ true → is_decision x ≡ true
      → list_all is_decision (more ++ x ∷ []) ≡ true
  all_end [] x e q = and_from (is_decision x) true q refl
  all_end (y ∷ ys) x e q =
      let p = and_parts (is_decision y) (list_all is_decision ys) e in
      and_from (is_decision y) (list_all is_decision (ys ++ x ∷ [])) p.0 (all_end ys x p.1 q)

  pub one_more_end : (xs ys : List Applied) (x : Applied) → (xs ++ ys) ++ x ∷ [] ≡ xs ++ (ys ++ x ∷ [])
  one_more_end [] ys x = refl
  one_more_end (z ∷ xs) ys x = ap (λ l. z ∷ l) (one_more_end xs ys x)

  module _ (base more : List Applied) (x : Tables) (d : Draft) (g : IsDeciding base more x d) where
    ready : SameReady server (said_by d) (decided_by d)
    ready = mute_ready server (decided_by d) d.sent g.mute

    -- what is decided so far, by the rules' words
    decided_is : appended (deciding more) begun ≡ decided_by d
    decided_is = ap (λ l. appended l begun)
        (sym (ap deciding g.applied ∙ deciding_both base more ∙ ap (λ l. l ++ deciding more) g.none))

    kept_is : filesets_through cause more (filesets_through cause base tree) ≡ filesets_through cause d.applied tree
    kept_is = sym (ap (λ l. filesets_through cause l tree) g.applied ∙ kept_both cause base more tree)

    -- one more decision is allowed
    may_more : (a : Applied) → ((s : Step) → s.cause ≡ cause
        → MayDecide server (filesets_through cause d.applied tree) past (decided_by d) s a)
        → (s : Step) → s.cause ≡ cause
        → MayDecideAll server (filesets_through cause base tree) past begun s (more ++ a ∷ [])
    may_more a m s e =
        decides_more server (filesets_through cause base tree) past begun s more a (g.may s e)
        (subst (λ (u : Cause). MayDecide server (filesets_through u more (filesets_through cause base tree)) past
        (appended (deciding more) begun) s a) (sym e)
        (subst (λ t. MayDecide server t past (appended (deciding more) begun) s a) (sym kept_is)
        (subst (λ l. MayDecide server (filesets_through cause d.applied tree) past l s a) (sym decided_is) (m s e))))

    -- a Change that waits is written down
    module _ (w : Wanted) (waits : IsQueued (said_by d) w) (c : ChangeOf) (is : w.request ≡ Changes c) (reply : Reply)
        (so : DecidedSo server (filesets_through cause d.applied tree) (said_by d) w c reply) where
      abbrev v : Written
      v = written_of w.host c reply

      bare_waits : IsQueued (decided_by d) w
      bare_waits = words_back d.sent (decided_by d) w waits

      written_may : IsWrittenSo server (filesets_through cause d.applied tree) (decided_by d) v
      written_may = written_so server (decided_by d) w c v is refl refl refl refl refl
          (filesets_through cause d.applied tree) bare_waits refl
          (decided_ready server (said_by d) (decided_by d) ready (filesets_through cause d.applied tree) w c reply so)

      took : TookNow (decided_by d) w.host w.moves (Change c)
      took = (ready.heard.took w.host w.moves (Change c)).0
          (subst (λ (r : Request). TookNow (said_by d) w.host w.moves (body_of r)) is (g.stands.wants.took w waits))

      fresh : IsDurable (decided_by d) w.host c.fileset c.number → ⊥
      fresh o = g.stands.changes.fresh w c waits is (o.0, o.1, (ready.written w.host c.fileset o.0).1 o.2)

      pub writes_more : EachInTurn (ServerTokens server) (deciding (d.applied ++ IsDone v ∷ [])) begun
      writes_more = subst (λ l. EachInTurn (ServerTokens server) l begun)
          (sym (decided_one d.applied (IsDone v) (WritesDown v) refl))
          (one_more (ServerTokens server) (deciding d.applied) (WritesDown v) begun g.writes
          (write_tokens server (decided_by d) w c v is refl refl refl refl refl took fresh))

      pub written_deciding : (s : Step) → s.cause ≡ cause
          → MayDecideAll server (filesets_through cause base tree) past begun s (more ++ IsDone v ∷ [])
      written_deciding = may_more (IsDone v) (λ s e. written_may)

      -- what its reply decides the writing does
      abbrev told : Message
      told = word x w.host (Done (done_of c reply))

      its_done : (h : HostId) (e n : ℕ) (o : DoneOf) → as_sent told ≡ Sent h e n (Done o) → done_of c reply ≡ o
      its_done h e n o p = cc

      on_written : (h : HostId) (r : Request) → Decides (as_sent told) h r → Decides (WritesDown v) h r
      on_written h (Asks f) o = absurd (let q = o.3 in cc)
      on_written h (Changes f) (inl o) = absurd (let q = o.1 in cc)
      on_written h (Changes f) (inr o) =
          let e = its_done h o.0 o.1 o.2 o.3 in
          inl (
            v,
            refl,
            (let q = o.3 in cc),
            ap (λ (y : DoneOf). y.fileset) e ∙ o.4,
            ap (λ (y : DoneOf). y.bring.number) e ∙ o.5,
          )

      no_token : (t : Token) (k : StayStamp) → Issues (as_sent told) t k → ⊥
      no_token t k i = elim i.3 [
        | inl q ↦ (let r = q.1 in cc)
        | inr q ↦ (let e = its_done i.0 i.1 k.moves q.0 q.1 in
            let none : In t [] = subst (In t) (ap (λ (y : Bring). y.tokens) (sym q.2)
            ∙ ap (λ (y : DoneOf). y.bring.tokens) (sym e)) i.4 in none)
      ]

      one_told : (m : Message) → In m (told ∷ []) → m ≡ told
      one_told m (inl e) = e
      one_told m (inr i) = elim i [ ]

      -- none of the words decides what waits then
      pub mute_more : AreMute server (WritesDown v ∷ decided_by d) (d.sent ++ told ∷ [])
      mute_more = record {
        brings = λ m i t k o. elim (in_parts m d.sent (told ∷ []) i) [
          | inl j ↦ g.mute.brings m j t k o
          | inr j ↦ no_token t k (subst (λ (n : Message). Issues (as_sent n) t k) (one_told m j) o)
        ];
        decides = λ m i u q o. elim q [
          | inl e ↦ absurd (cc)
          | inr e ↦ elim (in_parts m d.sent (told ∷ []) i) [
            | inl j ↦ g.mute.decides m j u e.0 o
            | inr j ↦ e.1 (inl (on_written u.host u.request
                (subst (λ (n : Message). Decides (as_sent n) u.host u.request) (one_told m j) o)))
          ]
        ];
      }

    -- a want is made anew
    module _ (old new : Wanted) (waits : IsQueued (said_by d) old)
        (anew : IsAnew server (filesets_through cause d.applied tree) (said_by d) old new)
        (needs : new.needs ≡ needs_for (filesets_through cause d.applied tree) new.host new.request) where
      anew_bare : IsAnew server (filesets_through cause d.applied tree) (decided_by d) old new
      anew_bare = record {
        waits = words_back d.sent (decided_by d) old waits;
        change = anew.change;
        request = anew.request;
        same = anew.same;
        effect = anew.effect;
        ready = decide_ready server (said_by d) (decided_by d) ready old anew.ready;
        accepted = anew.accepted;
        other = anew.other;
      }

      pub anew_deciding : (s : Step) → s.cause ≡ cause
          → MayDecideAll server (filesets_through cause base tree) past begun s (more ++ IsWanted new ∷ [])
      anew_deciding = may_more (IsWanted new) (λ s e. (needs, inr (old, anew_bare)))

      pub wants_more : EachInTurn (ServerTokens server) (deciding (d.applied ++ IsWanted new ∷ [])) begun
      wants_more = subst (λ l. EachInTurn (ServerTokens server) l begun)
          (sym (decided_one d.applied (IsWanted new) (MakesWant new) refl))
          (one_more (ServerTokens server) (deciding d.applied) (MakesWant new) begun g.writes
          (makes_may server (decided_by d) new))
