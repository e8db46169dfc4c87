use Rattle.std.proofs.Common.{◌≡◌, sym, ◌∙◌, length, vec_len}
use Rattle.pm_machine.proofs.Stacks.{frames_length}
use Rattle.pm_machine.proofs.frames.Frames.len.Goals as goal

pub returns-clause-len : goal.returns-clause-len
returns-clause-len c =
    let long : vec_len c.self.inside.waiting ≡ length c.self.inside.waiting.items =
    cc c.self.inside.waiting.ok.0 in
    rw (← c.self.view_is) (c.len.ensures ∙ long
    ∙ sym (frames_length c.self.inside.size c.self.inside.waiting.items
    c.self.inside.words.items))
