use Rattle.std.proofs.Common.{Err, ◌≡◌, ◌≢◌, ◌+◌, ◌<◌, ◌≤◌, ◌∙◌, ℕ, Bool, List, arith, ap, ap₂, sym, subst}
use Rattle.records.specs.declared.Record.{Record}
use Rattle.layout.specs.Capacities.{class_of, capacity}
use Rattle.layout.specs.CapacitiesLaws.{class_below, class_stays, class_leaves}
use Rattle.home.specs.Bytes.{step_of}
use Rattle.home.specs.SoundLaws.{sound_long}
use Rattle.moves.specs.LooseLaws.{sound-stored}
use Rattle.lists.specs.Listed.{Missing}
use Rattle.lists.specs.ListedLaws.{listed_most}
use Rattle.lists.specs.RecordLaws.{missing_under, in_inside, in_here}
use Rattle.edits.specs.Edits.{fits_after}
use Rattle.edits.specs.EditsLaws.{limit_low, put_full, put_done, put_no_room, put_room, put_keeps}
use Rattle.edits.proofs.insert_record.Goals as goal

-- the list keeps its class, or not
keeps : {h : List ℕ} {t p n j s c k : ℕ} {r : Record} → Missing h t p n j r → n < 989 → s ≡ step_of h → c ≡ class_of s n → k ≡ capacity s c → n < k → class_of (step_of h) (n + 1) ≡ class_of (step_of h) n
keeps {n = n} m short s c k g = rw s at (class_stays _ _ _ short c (subst (λ (x : ℕ). n < x) k g))

leaves : {h : List ℕ} {t p n j s c k : ℕ} {r : Record} → Missing h t p n j r → n < 989 → s ≡ step_of h → c ≡ class_of s n → k ≡ capacity s c → k ≤ n → class_of (step_of h) (n + 1) ≢ class_of (step_of h) n
leaves {n = n} m short s c k g = rw s at (class_leaves _ _ _ short c (subst (λ (x : ℕ). x ≤ n) k g))

-- whether there is room then
room : {h : List ℕ} {t p n j s c d : ℕ} {r : Record} {b : Bool} → Missing h t p n j r → s ≡ step_of h → c ≡ class_of s n → d ≡ class_of s (n + 1) → b ≡ fits_after s h c d
    → fits_after (step_of h) h (class_of (step_of h) n) (class_of (step_of h) (n + 1)) ≡ b
room {h = h} {n = n} {s = s} {b = b} m e c d f = subst (λ (x : ℕ). fits_after x h (class_of x n) (class_of x (n + 1)) ≡ b) e (sym (f ∙ ap₂ (fits_after s h) c d))

pub returns-then-block-limit : goal.returns-then-block-limit
returns-then-block-limit c =
    let e = put_full _ _ _ _ _ _ c.requires c.args.by (omega arith) in
    record { value = ap Err c.full.ensures ∙ e.0; home_after = e.1 }

pub step_of-step-requires : goal.step_of-step-requires
step_of-step-requires c = omega (arith, sound_long _ c.requires.listed.sound)

pub class_of-c-requires : goal.class_of-c-requires
class_of-c-requires c = omega (arith, listed_most _ _ _ _ c.requires.listed)

pub capacity-requires : goal.capacity-requires
capacity-requires c = rw c.class_of-c.ensures (class_below _ _ (listed_most _ _ _ _ c.requires.listed))

pub insert_here-requires : goal.insert_here-requires
insert_here-requires c = (missing_under _ _ _ _ _ _ c.requires, in_inside _ _ _ _ _ _ c.requires (omega (arith, limit_low c.args.by)) (keeps c.requires (omega (arith, limit_low c.args.by)) c.step_of-step.ensures c.class_of-c.ensures c.capacity.ensures.0 c.if-block-capacity.true))

pub returns-then-block-capacity : goal.returns-then-block-capacity
returns-then-block-capacity c =
    let k = keeps c.requires (omega (arith, limit_low c.args.by)) c.step_of-step.ensures c.class_of-c.ensures c.capacity.ensures.0 c.if-block-capacity.true in
    let d = put_done _ _ _ _ _ _ c.requires c.args.by (omega arith) (put_keeps _ _ _ _ _ _ c.requires k) in
    record { value = d.0; home_after = c.insert_here.ensures ∙ in_here _ _ _ _ _ _ c.requires (omega (arith, limit_low c.args.by)) k ∙ d.1 }

pub class_of-requires : goal.class_of-requires
class_of-requires c = omega (arith, limit_low c.args.by)

pub room_after-requires : goal.room_after-requires
room_after-requires c = (
  rw c.step_of-step.ensures (sound-stored _ c.requires.listed.sound),
  rw c.class_of-c.ensures (class_below _ _ (listed_most _ _ _ _ c.requires.listed)),
  rw c.class_of.ensures (class_below _ _ (omega (arith, limit_low c.args.by))),
)

pub returns-then-not-room_after : goal.returns-then-not-room_after
returns-then-not-room_after c =
    let e = put_no_room _ _ _ _ _ _ c.requires c.args.by (omega arith) (room c.requires c.step_of-step.ensures c.class_of-c.ensures c.class_of.ensures c.room_after.ensures ∙ c.if-not-room_after.true) in
    record { value = e.0; home_after = e.1 }

pub insert_moving-requires : goal.insert_moving-requires
insert_moving-requires c =
    let s : c.args.block.count < 989 = omega (arith, limit_low c.args.by) in
    record {
      missing = (c.requires, s, leaves c.requires s c.step_of-step.ensures c.class_of-c.ensures c.capacity.ensures.0 c.if-block-capacity.false, omega arith);
      home_value = sym (put_room _ _ _ _ _ _ c.requires s) ∙ room c.requires c.step_of-step.ensures c.class_of-c.ensures c.class_of.ensures c.room_after.ensures ∙ c.if-not-room_after.false;
    }

pub returns : goal.returns
returns c =
    let d = put_done _ _ _ _ _ _ c.requires c.args.by (omega arith) (room c.requires c.step_of-step.ensures c.class_of-c.ensures c.class_of.ensures c.room_after.ensures ∙ c.if-not-room_after.false) in
    record { value = d.0; home_after = c.insert_moving.ensures ∙ d.1 }
