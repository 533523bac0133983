-- The steps of a log that is brought to format 2.
use Rattle.std.proofs.Common.{◌≡◌, ◌≢◌, ◌<◌, ◌≤◌, ℕ, zero, suc, List, [], ◌∷◌, length, set, drop, get_or, inl, inr, refl, sym, subst, ◌∙◌, ap, arith}
use Rattle.std.specs.Prelude.{Bool, true, false, ◌==◌, Result, Ok, Err, OnOk}
use Rattle.std.proofs.lemmas.Bool.{and_parts, cond-false, eqb-true, false≢true, ne_eqb}
use Rattle.base_types.specs.Crash.{IsQuiet, IsSettled}
use Rattle.base_types.specs.Image.{byte_at}
use Rattle.base_types.specs.View.{View}
use Rattle.base_outside.specs.Runs.{LeavesOnly}
use Rattle.base_outside.proofs.Runs.{quiet, quiet_settled, quiet_then, then, weaker}
use Rattle.disk_layout.specs.Pages.{ends_in, redone, HasPages}
use Rattle.disk_layout.specs.Places.{in_place, SameBlocks}
use Rattle.disk_layout.specs.declared.half.Half.{Half}
use Rattle.disk_log.specs.Blame.{IsDiskOrMemory}
use Rattle.disk_log.specs.Contents.{contents_of, last_stage, over, page_in, stage_in, IsLeft, Keeps, KeepsLast}
use Rattle.disk_log.specs.declared.fault.LogFault.{LogFault}
use Rattle.disk_log.specs.Log.{disk_of, slot_of, state_of, IsIdle, IsSoundLog}
use Rattle.disk_log.specs.declared.kept.Tx.{Tx}
use Rattle.disk_log.specs.Puts.{overlaid, page_of}
use Rattle.disk_layout.specs.declared.entry.Entry.{Entry}
use Rattle.disk_layout.specs.declared.superblock.Superblock.{Superblock}
use Rattle.disk_log.specs.State.{State, begun, forced_all}
use Rattle.disk_log.specs.declared.log.Log.{Log}
use Rattle.disk_log.proofs.Emptying.{no_puts}
use Rattle.disk_log.proofs.Keeping.{last_redone}
use Rattle.disk_pages.specs.Server.{is_rest, is_server_page, is_taken, server_of}
use Rattle.disk_pages.specs.Words.{are_zero}
use Rattle.disk_pages.proofs.ServerPages.{facts_sound}
use Rattle.disk_pages.specs.declared.server.ServerFacts.{ServerFacts}
use Rattle.disk_pages.specs.Laws.{IsReformed}
use Rattle.disk_pages.specs.Puts.{SaysFacts}
use Rattle.disk_records.specs.Reforming.{ArePagesStill, IsReformedOr, LeavesReformed, PutsFormat, Reforms}
use Rattle.disk_anode.specs.Room.{how_many, is_page, MayPutAll}
use Rattle.disk_anode.proofs.Counting.{many_rest}
use Rattle.disk_anode.proofs.Putting.{may_begun}
use Rattle.disk_log.specs.Begin.{IsBegun}

-- of a log without an open transaction, the last stage is what its pages say
module _ {D : Type 0} (tells : Type 0) (view : D → View) (log : Log D) (sound : IsSoundLog tells view log) (none : (state_of log).puts ≡ []) (told : tells) where
  pub last_now : (p : ℕ) → stage_in (contents_of view log) (last_stage (contents_of view log)) p ≡ page_in (contents_of view log) p
  unfolding page_of
  last_now p =
      last_redone (view (disk_of log)).image (state_of log) (sound.steady.on_disk told).whole.ended p
      ∙ (λ i. overlaid (sym none i) (λ (q : ℕ). redone (state_of log).entries (in_place (view (disk_of log)).image) q) p)

-- no transaction is open once the only one is closed
pub none_after : (xs : List ℕ) (slot n : ℕ) → ((s : ℕ) → get_or xs s 0 ≡ 0) → (s : ℕ) → get_or (set (set xs slot n) slot 0) s 0 ≡ 0
none_after [] slot n none s = refl
none_after (x ∷ xs) zero n none zero = refl
none_after (x ∷ xs) zero n none (suc s) = none (suc s)
none_after (x ∷ xs) (suc slot) n none zero = none 0
none_after (x ∷ xs) (suc slot) n none (suc s) = none_after xs slot n (λ t. none (suc t)) s

-- a page that says facts in format 2 is one of the server that they were read of
format_one : (old : List ℕ) → is_server_page old ≡ true → (byte_at old 29 == 2) ≡ false → byte_at old 29 ≡ 0
unfolding is_server_page
format_one old is not_two = by (byte_at old 29 == 0) refl
  where
    rest : is_rest old ≡ true
    rest = (and_parts _ (is_rest old) is).1

    by : (a : Bool) → (byte_at old 29 == 0) ≡ a → byte_at old 29 ≡ 0
    by true e = eqb-true (byte_at old 29) 0 e
    by false e =
        let all = sym (cond-false (byte_at old 29 == 0) (are_zero 30 482 old) _ e) ∙ rest in
        let a = (and_parts _ (are_zero 104 408 old) all).0 in
        let b = (and_parts _ (is_taken 88 old) a).0 in
        let c = (and_parts _ (is_taken 72 old) b).0 in
        let d = (and_parts _ (is_taken 56 old) c).0 in
        let f = (and_parts _ (is_taken 40 old) d).0 in
        let two = (and_parts (byte_at old 29 == 2) (are_zero 30 2 old) f).0 in
        absurd (false≢true (sym not_two ∙ two))

pub reformed_page : (old new : List ℕ) → is_server_page old ≡ true → (byte_at old 29 == 2) ≡ false → SaysFacts (record (server_of old) { format = 2 }) new → IsReformed old new × (is_server_page new ≡ true)
reformed_page old new is not_two says = (record { from = format_one old is not_two; to = says.says }, says.sound ∙ facts_sound old is)

-- a transaction that put the facts of a server, and ended
module _ {D : Type 0} (tells : Type 0) (view : D → View) (slot : ℕ) (facts : ServerFacts) (old mid new : Log D) where
  abbrev Sees : View → Type 0
  Sees seen = IsQuiet (view (disk_of old)) seen

  module _ (keeps : Keeps tells view 0 old mid) (rest : state_of mid ≡ record (state_of old) { puts = (state_of mid).puts }) (quiet : IsQuiet (view (disk_of old)) (view (disk_of mid)))
      (ended_keeps : Keeps tells view 1 mid new) (closed_is : (state_of new).reservations ≡ set (state_of mid).reservations slot 0) (disk : disk_of new ≡ disk_of mid)
      (pages : (image : List ℕ) (p : ℕ) → page_in (over image new) p ≡ page_in (over image mid) p) where
    page_still : (p : ℕ) → page_in (contents_of view new) p ≡ page_in (contents_of view mid) p
    page_still p = (λ i. page_in (over (view (disk i)).image new) p) ∙ pages (view (disk_of mid)).image p

    pub put_done : {T : Type 0} (value : T) → (tells → SaysFacts facts (page_in (contents_of view mid) 0)) → (tells → (p : ℕ) → p ≢ 0 → page_in (contents_of view mid) p ≡ page_in (contents_of view old) p)
        → PutsFormat tells view slot facts (Ok value) old new
    put_done value first others = record {
      sound = ended_keeps.sound;
      superblock = ended_keeps.superblock ∙ keeps.superblock;
      half = ended_keeps.half ∙ keeps.half;
      closed = closed_is ∙ (λ i. set (rest i).reservations slot 0);
      quiet = subst Sees (ap view (sym disk)) quiet;
      counted = (let a = ended_keeps.counted in let b = keeps.counted in omega (arith, a, b));
      last = (let a = ended_keeps.last in let b = keeps.last in omega (arith, a, b));
      stages = λ told k p le lt.
          (let b = keeps.last in
          let h : (state_of mid).half.pages ≡ (state_of old).half.pages = ap (λ (half : Half). half.pages) keeps.half in
          ended_keeps.stages told k p (omega (arith, b, le)) (omega (arith, h, lt)) ∙ keeps.stages told k p le lt);
      first = λ told. subst (SaysFacts facts) (sym (page_still 0)) (first told);
      others = λ told p some. page_still p ∙ others told p (λ e. absurd (omega (arith, e, some)));
      only = tt;
    }

  -- or was undone
  pub put_undone : {T : Type 0} (fault : LogFault) → IsSoundLog tells view new → state_of mid ≡ state_of old → IsQuiet (view (disk_of old)) (view (disk_of mid)) → Keeps tells view 0 old mid → Keeps tells view 0 mid new
      → (state_of new).reservations ≡ set (state_of mid).reservations slot 0 → disk_of new ≡ disk_of mid → IsDiskOrMemory fault (view (disk_of old)) (view (disk_of mid)) → PutsFormat {T = T} tells view slot facts (Err fault) old new
  put_undone fault sound undone quiet keeps undone_keeps closed_is disk only = record {
    sound = sound;
    superblock = undone_keeps.superblock ∙ keeps.superblock;
    half = undone_keeps.half ∙ keeps.half;
    closed = closed_is ∙ (λ i. set (undone i).reservations slot 0);
    quiet = subst Sees (ap view (sym disk)) quiet;
    counted = (let a = undone_keeps.counted in let b = keeps.counted in omega (arith, a, b));
    last = tt;
    stages = λ told k p le lt.
        (let b = keeps.last in
        let h : (state_of mid).half.pages ≡ (state_of old).half.pages = ap (λ (half : Half). half.pages) keeps.half in
        undone_keeps.stages told k p (omega (arith, b, le)) (omega (arith, h, lt)) ∙ keeps.stages told k p le lt);
    first = λ told. tt;
    others = λ told. tt;
    only = subst (λ (v : View). IsDiskOrMemory fault (view (disk_of old)) v) (ap view (sym disk)) only;
  }

none_dropped : (xs : List Entry) → drop (length xs) xs ≡ []
none_dropped [] = refl
none_dropped (x ∷ xs) = none_dropped xs

-- from a log without an open transaction to one in format 2
module _ {D : Type 0} (tells : Type 0) (view : D → View) (slot : ℕ) (facts : ServerFacts) (first read begun_log put : Log D) (idle : IsIdle tells view first) (last : last_stage (contents_of view first) ≡ 0)
    (settled : IsSettled (view (disk_of first))) (state_read : state_of read ≡ state_of first) (quiet_read : IsQuiet (view (disk_of first)) (view (disk_of read)))
    (begun_is : state_of begun_log ≡ begun (state_of read) slot 3) (disk_begun : disk_of begun_log ≡ disk_of read) where
  abbrev Image : Log D → List ℕ
  Image log = (view (disk_of log)).image

  state_begun : state_of begun_log ≡ begun (state_of first) slot 3
  state_begun = begun_is ∙ (λ i. begun (state_read i) slot 3)

  quiet_begun : IsQuiet (view (disk_of first)) (view (disk_of begun_log))
  quiet_begun = subst (λ (v : View). IsQuiet (view (disk_of first)) v) (ap view (sym disk_begun)) quiet_read

  page_begun : (p : ℕ) → page_in (contents_of view begun_log) p ≡ page_in (contents_of view first) p
  page_begun p = λ i. page_of (state_begun i).entries (state_begun i).puts (quiet_begun.image i) p

  stage_begun : (k p : ℕ) → stage_in (contents_of view begun_log) k p ≡ stage_in (contents_of view first) k p
  stage_begun k p = λ i. stage_in (record { state = state_begun i; image = quiet_begun.image i }) k p

  last_begun : last_stage (contents_of view begun_log) ≡ 0
  last_begun = (λ i. last_stage (record { state = state_begun i; image = quiet_begun.image i })) ∙ last

  module _ {T : Type 0} (result : Result T LogFault) (puts : PutsFormat tells view slot facts result begun_log put) where
    pub quiet_put : IsQuiet (view (disk_of first)) (view (disk_of put))
    quiet_put = quiet_then quiet_begun puts.quiet

    pub superblock_put : (state_of put).superblock ≡ (state_of first).superblock
    superblock_put = puts.superblock ∙ (λ i. (state_begun i).superblock)

    pub half_put : (state_of put).half ≡ (state_of first).half
    half_put = puts.half ∙ (λ i. (state_begun i).half)

    pub none_open_put : (s : ℕ) → get_or (state_of put).reservations s 0 ≡ 0
    none_open_put s = (λ i. get_or (puts.closed i) s 0) ∙ (λ i. get_or (set (state_begun i).reservations slot 0) s 0) ∙ none_after (state_of first).reservations slot 3 idle.none_open s

    stage_first : tells → (k p : ℕ) → k ≤ 0 → p < (state_of first).half.pages → stage_in (contents_of view put) k p ≡ stage_in (contents_of view first) k p
    stage_first told k p le lt =
        (let e = last_begun in
        let h : (state_of begun_log).half.pages ≡ (state_of first).half.pages = λ i. (state_begun i).half.pages in
        puts.stages told k p (omega (arith, e, le)) (omega (arith, h, lt)) ∙ stage_begun k p)

  module _ {T : Type 0} (value : T) (puts : PutsFormat tells view slot facts (Ok value) begun_log put) where
    last_put : last_stage (contents_of view put) ≡ 1
    last_put = let e = puts.last in let f = last_begun in omega (arith, e, f)

    module _ (told : tells) (server : is_server_page (stage_in (contents_of view first) 0 0) ≡ true) (not_two : (byte_at (page_in (contents_of view first) 0) 29 == 2) ≡ false)
        (facts_are : facts ≡ record (server_of (page_in (contents_of view first) 0)) { format = 2 }) where
      first_now : (p : ℕ) → stage_in (contents_of view first) 0 p ≡ page_in (contents_of view first) p
      first_now p = (λ i. stage_in (contents_of view first) (sym last i) p) ∙ last_now tells view first idle.sound (no_puts (state_of first) idle.sound.accounts idle.none_open) told p

      put_now : (p : ℕ) → stage_in (contents_of view put) 1 p ≡ page_in (contents_of view put) p
      put_now p = (λ i. stage_in (contents_of view put) (sym last_put i) p) ∙ last_now tells view put puts.sound (no_puts (state_of put) puts.sound.accounts (none_open_put (Ok value) puts)) told p

      -- its last stage is in format 2
      pub put_still : (n : ℕ) (pages : ℕ → List ℕ) → 1 ≤ n → ((p : ℕ) → p < n → pages p ≡ stage_in (contents_of view put) 1 p) → ArePagesStill n (stage_in (contents_of view first) 0) pages
      put_still n pages some are =
          (let page : pages 0 ≡ page_in (contents_of view put) 0 = are 0 (omega (arith, some)) ∙ put_now 0 in
          let says : SaysFacts (record (server_of (stage_in (contents_of view first) 0 0)) { format = 2 }) (pages 0) =
          subst (λ (l : List ℕ). SaysFacts (record (server_of (stage_in (contents_of view first) 0 0)) { format = 2 }) l) (sym page)
          (subst (λ (f : ServerFacts). SaysFacts f (page_in (contents_of view put) 0)) (facts_are ∙ sym (λ i. record (server_of (first_now 0 i)) { format = 2 })) (puts.first told)) in
          let both = reformed_page (stage_in (contents_of view first) 0 0) (pages 0) server (ap (λ (l : List ℕ). byte_at l 29 == 2) (first_now 0) ∙ not_two) says in
          record {
            first = both.0;
            sound = both.1;
            others = λ p least lt. are p lt ∙ put_now p ∙ puts.others told p least ∙ page_begun p ∙ sym (first_now p);
          })

      -- what a crash in its force leaves
      pub left_reformed : (c : List ℕ) → IsLeft (contents_of view put) (view (disk_of put)) c
          → (pages : ℕ → List ℕ) × IsReformedOr (state_of first).half.pages (stage_in (contents_of view first) 0) pages
          × HasPages (state_of first).superblock (state_of first).half.generation pages (Image first) c
      left_reformed c (k, d, may, left) = (stage_in (contents_of view put) k, which k left.some_of, has)
        where
          there : d ≡ Image first
          there = settled d (let q = quiet_put (Ok value) puts in q.now d may)

          which : (k : ℕ) → k ≤ last_stage (contents_of view put) → IsReformedOr (state_of first).half.pages (stage_in (contents_of view first) 0) (stage_in (contents_of view put) k)
          which zero le = inl (λ p lt. stage_first (Ok value) puts told 0 p (omega arith) lt)
          which (suc j) le =
              (let one : suc j ≡ 1 = (let e = last_put in omega (arith, e, le)) in
              let many = idle.sound.many in
              inr (put_still (state_of first).half.pages (stage_in (contents_of view put) (suc j)) (omega (arith, many)) (λ p lt i. stage_in (contents_of view put) (one i) p)))

          has : HasPages (state_of first).superblock (state_of first).half.generation (stage_in (contents_of view put) k) (Image first) c
          has =
              subst (λ (l : List ℕ). HasPages (state_of first).superblock (state_of first).half.generation (stage_in (contents_of view put) k) l c) there
              (subst (λ (h : Half). HasPages (state_of first).superblock h.generation (stage_in (contents_of view put) k) d c) (half_put (Ok value) puts)
              (subst (λ (s : Superblock). HasPages s (state_of put).half.generation (stage_in (contents_of view put) k) d c) (superblock_put (Ok value) puts) left.log))

      -- and what it leaves itself
      pub forced_reforms : (forced : Log D) → IsSoundLog tells view forced → state_of forced ≡ forced_all (state_of put) → (tells → KeepsLast (contents_of view put) (contents_of view forced))
          → (tells → SameBlocks (state_of put).half.pages (Image put) (Image forced)) → IsSettled (view (disk_of forced)) → IsReformedOr (state_of first).half.pages (stage_in (contents_of view first) 0) (stage_in (contents_of view forced) 0)
      forced_reforms forced sound state stages blocks durable =
          (let many = idle.sound.many in
          let h : (state_of put).half.pages ≡ (state_of first).half.pages = ap (λ (half : Half). half.pages) (half_put (Ok value) puts) in
          inr (put_still (state_of first).half.pages (stage_in (contents_of view forced) 0) (omega (arith, many))
          (λ p lt. (stages told).last p (omega (arith, h, lt)) ∙ (λ i. stage_in (contents_of view put) (last_put i) p))))

    -- and where this is what the facts said that were read
    module _ (was : ServerFacts) (read_is : tells → was ≡ server_of (page_in (contents_of view first) 0))
        (other : was.format ≢ 2) (facts_are : facts ≡ record was { format = 2 }) (forced : Log D) where
      not_two : tells → (byte_at (page_in (contents_of view first) 0) 29 == 2) ≡ false
      unfolding server_of
      not_two told = (λ i. (sym (read_is told) i).format == 2) ∙ ne_eqb was.format 2 other

      facts_now : tells → facts ≡ record (server_of (page_in (contents_of view first) 0)) { format = 2 }
      facts_now told = facts_are ∙ (λ i. record (read_is told i) { format = 2 })

      two_now : (page : List ℕ) → SaysFacts facts page → byte_at page 29 ≡ 2
      unfolding server_of
      two_now page says = (λ i. (says.says i).format) ∙ (λ i. (facts_are i).format)

      reforms_now : IsSoundLog tells view forced → state_of forced ≡ forced_all (state_of put) → (tells → KeepsLast (contents_of view put) (contents_of view forced))
          → (tells → SameBlocks (state_of put).half.pages (Image put) (Image forced)) → (tells → (p : ℕ) → page_in (contents_of view forced) p ≡ page_in (contents_of view put) p)
          → IsSettled (view (disk_of forced)) → Reforms tells view first forced
      reforms_now sound state stages blocks pages durable = record {
        idle = record { sound = sound; none_open = λ s. (λ i. get_or (state i).reservations s 0) ∙ none_open_put (Ok value) puts s };
        superblock = (λ i. (state i).superblock) ∙ superblock_put (Ok value) puts;
        half = (λ i. (state i).half) ∙ half_put (Ok value) puts;
        last = (λ i. ends_in (drop (state i).forced (state i).entries)) ∙ ap ends_in (none_dropped (state_of put).entries);
        settled = durable;
        pages = λ told server. forced_reforms told server (not_two told) (facts_now told) forced sound state stages blocks durable;
        blocks = λ told. subst (λ (h : Half). SameBlocks h.pages (Image first) (Image forced)) (half_put (Ok value) puts)
            (subst (λ (l : List ℕ). SameBlocks (state_of put).half.pages l (Image forced)) (quiet_put (Ok value) puts).image (blocks told));
        format = λ told. ap (λ (l : List ℕ). byte_at l 29) (pages told 0) ∙ two_now (page_in (contents_of view put) 0) (puts.first told);
      }

      pub reforms_if : {F : Type 0} (result : Result F LogFault) → OnOk result (IsSoundLog tells view forced) → OnOk result (state_of forced ≡ forced_all (state_of put))
          → (tells → OnOk result (KeepsLast (contents_of view put) (contents_of view forced))) → (tells → SameBlocks (state_of put).half.pages (Image put) (Image forced))
          → (tells → (p : ℕ) → page_in (contents_of view forced) p ≡ page_in (contents_of view put) p)
          → OnOk result (IsSettled (view (disk_of forced))) → OnOk result (Reforms tells view first forced)
      reforms_if (Ok v) sound state stages blocks pages durable = reforms_now sound state stages blocks pages durable
      reforms_if (Err e) sound state stages blocks pages durable = tt

      abbrev Left : List ℕ → Type 0
      Left c = (pages : ℕ → List ℕ) × IsReformedOr (state_of first).half.pages (stage_in (contents_of view first) 0) pages
          × HasPages (state_of first).superblock (state_of first).half.generation pages (Image first) c

      pub crash_now : LeavesOnly (IsLeft (contents_of view put) (view (disk_of put))) (view (disk_of put)) (view (disk_of forced))
          → tells → is_server_page (stage_in (contents_of view first) 0 0) ≡ true → LeavesReformed view first forced
      crash_now run told server = (then) (quiet Left (quiet_put (Ok value) puts)) (weaker run (left_reformed told server (not_two told) (facts_now told)))

-- a log in format 2 of which the server's page was read
module _ {D : Type 0} (tells : Type 0) (view : D → View) (first read : Log D) (facts : ServerFacts) (same : state_of read ≡ state_of first) (still : IsQuiet (view (disk_of first)) (view (disk_of read))) where
  contents : contents_of view read ≡ contents_of view first
  contents = λ i. record { state = same i; image = still.image i }

  two_read : facts ≡ server_of (page_in (contents_of view first) 0) → facts.format ≡ 2 → byte_at (page_in (contents_of view read) 0) 29 ≡ 2
  unfolding server_of
  two_read is two = (λ i. byte_at (page_in (contents i) 0) 29) ∙ sym (λ i. (is i).format) ∙ two

  pub formed : IsIdle tells view first → last_stage (contents_of view first) ≡ 0 → IsSettled (view (disk_of first)) → IsSoundLog tells view read → (tells → facts ≡ server_of (page_in (contents_of view first) 0)) → facts.format ≡ 2
      → Reforms tells view first read
  formed idle last settled sound read_is two = record {
    idle = record { sound = sound; none_open = λ s. (λ i. get_or (same i).reservations s 0) ∙ idle.none_open s };
    superblock = λ i. (same i).superblock;
    half = λ i. (same i).half;
    last = (λ i. last_stage (contents i)) ∙ last;
    settled = quiet_settled still settled;
    pages = λ told server. inl (λ p lt i. stage_in (contents i) 0 p);
    blocks = λ told at le i. byte_at (still.image i) at;
    format = λ told. two_read (read_is told) two;
  }

one_page : how_many (is_page 0) 1 ≡ 1
unfolding how_many
one_page = refl

-- one page of many
page_many : (pages : ℕ) → 1 ≤ pages → how_many (is_page 0) pages ≤ 1
page_many pages le = let rest = many_rest (is_page 0) 1 pages le behind in let here = one_page in omega (arith, rest, here)
  where
    behind : (j : ℕ) → 1 ≤ j → j < pages → is_page 0 j ≡ false
    behind j from lt = ne_eqb j 0 (λ e. omega (arith, e, from))

-- a transaction of one page may put it
pub may_put : {D : Type 0} (tells : Type 0) (view : D → View) (first read begun_log : Log D) (tx : Tx) → IsIdle tells view first → state_of read ≡ state_of first → IsBegun 3 (Ok tx) (state_of read) (state_of begun_log)
    → MayPutAll (is_page 0) (state_of begun_log) (slot_of tx)
may_put tells view first read begun_log tx idle same begins =
    let many = idle.sound.many in
    let there : slot_of tx < length (state_of first).reservations = subst (λ (s : State). slot_of tx < length s.reservations) same begins.1 in
    subst (λ (s : State). MayPutAll (is_page 0) s (slot_of tx)) (sym (begins.3 ∙ (λ i. begun (same i) (slot_of tx) 3)))
    (may_begun (is_page 0) (state_of first) (slot_of tx) 1 there (no_puts (state_of first) idle.sound.accounts idle.none_open) (page_many (state_of first).half.pages (omega (arith, many))))
