-- `Session::put_last` puts the last line behind those that are collected, unless a read failed.
use Rattle.std.proofs.Common.{◌≡◌, true, false, ◌≤◌, length, rules}
use Rattle.text.specs.Output.{collected}
use Rattle.sheet.specs.Sheet.{end_of}
use Rattle.cutsheet.specs.Run.{input_failed}
use Rattle.cutsheet.proofs.Running.{last_kept, last_put}
use Rattle.cutsheet.proofs.session.Session.put_last.Goals as goal

pub returns-then-is_failed : goal.returns-then-is_failed
returns-then-is_failed g c =
    let unread : input_failed c.args.self.now.input ≡ true = search rules in
    last_kept c.args.output.now.sink c.args.output.now.failed (input_failed c.args.self.now.input)
    (collected c.args.output.now) (end_of c.args.self.now.sheet.splitter) unread

pub returns : goal.returns
returns g c =
    let read : input_failed c.args.self.now.input ≡ false = search rules in
    let within : c.make_room.new.output.len ≤ length c.make_room.new.output.block = search rules in
    last_put c.args.output.now.failed c.make_room.new.output.failed (input_failed c.args.self.now.input)
    (collected c.args.output.now) (end_of c.args.self.now.sheet.splitter) c.make_room.new.output.block
    c.finish_from-output.new.text c.make_room.new.output.len c.finish_from-output.result read within
    c.finish_from-output.ensures.value.0 c.finish_from-output.ensures.text_after c.make_room.ensures.handed
