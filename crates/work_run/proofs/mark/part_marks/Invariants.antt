use Rattle.std.specs.Prelude.{◌≡◌, ◌≤◌, length, map, take, vec_capacity}
use Rattle.work_run.proofs.mark.part_marks.Given as goal

abbrev pub invariant-loop-reply : goal.invariant-loop-reply
invariant-loop-reply l = record {
  replies : l.replies.items ≡ map (λ a. a.0) (take l.reply-index l.answers);
  firsts : l.firsts.items ≡ map (λ a. a.1) (take l.reply-index l.answers);
  room : length l.answers ≤ vec_capacity l.replies;
  firsts_room : length l.answers ≤ vec_capacity l.firsts;
}
