use Rattle.std.proofs.Common.{sym, ◌∙◌}
use Rattle.lines.specs.AnswerLaws.{command_list, command_edit}
use Rattle.lines.proofs.answer.answer_command.Goals as goal

pub returns-then-is_list : goal.returns-then-is_list
returns-then-is_list c =
    let e = command_list c.args.image.now c.args.space.now c.args.c (sym c.is_list.ensures ∙ c.if-is_list.true) in record {
      out_after = rw e.0 c.put_listing.ensures;
      image_after = e.1;
    }

pub returns-else-is_list : goal.returns-else-is_list
returns-else-is_list c =
    let e = command_edit c.args.image.now c.args.space.now c.args.c (sym c.is_list.ensures ∙ c.if-is_list.false) in record {
      out_after = rw (e.0, ← c.run.ensures.value) c.put_reply.ensures;
      image_after = (c.run.ensures.image_after.0 ∙ e.1.0, c.run.ensures.image_after.1 ∙ e.1.1);
    }
